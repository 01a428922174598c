-- The links of a net as segments of the plane, and what they cross. All coordinates are doubled, so that the middle of a
-- stretch is a whole number.
use Rattle.std.specs.Prelude.{◌≡◌, ◌≢◌, ◌⊎◌, ℕ, ◌<◌, ℤ, pos, ◌+ℤ◌, ◌*ℤ◌, ◌≤ℤ◌, int_lt, int_le, if◌then◌else◌, length, map}
use Rattle.std.specs.Int.{int_max, int_min}
use Rattle.dpl_cell.specs.Places.{Corners, corners_of}
use Rattle.dpl_cuts.specs.declared.types.Fragments.{Fragments}
use Rattle.dpl_cuts.specs.Positions.{rect_at}
use Rattle.dpl_sign.specs.declared.edges.Edge.{Edge}
use Rattle.dpl_sign.specs.declared.nets.Net.{Net}
use Rattle.dpl_sign.specs.Walks.{edge_at}
use Rattle.dpl_euler.specs.declared.types.Crossing.{Crossing}
use Rattle.dpl_euler.specs.declared.types.With.{With}
use Rattle.dpl_euler.specs.declared.types.With.TheVariants.{Link, Fragment}
use Rattle.dpl_euler.specs.Points.{Ends, Point, IsAt, IsOn}

-- The place at which a stretch from a1 to a2 is left towards one from b1 to b2, doubled: the middle of what they have in
-- common, or else the end that is next to the other.
abbrev pub leaving : ℤ → ℤ → ℤ → ℤ → ℤ
leaving a1 a2 b1 b2 =
    if int_lt (int_max a1 b1) (int_min a2 b2) then int_max a1 b1 +ℤ int_min a2 b2
    else (if int_le a2 b1 then pos 2 *ℤ a2 else pos 2 *ℤ a1)

-- The link of two rectangles. Where they share columns or rows it leads from side to side at the middle of these, and
-- otherwise from corner to corner. Where they touch it is one point.
abbrev pub link_between : Corners → Corners → Ends
link_between a b = record {
  x1 = leaving a.x1 a.x2 b.x1 b.x2;
  y1 = leaving a.y1 a.y2 b.y1 b.y2;
  x2 = leaving b.x1 b.x2 a.x1 a.x2;
  y2 = leaving b.y1 b.y2 a.y1 a.y2;
}

-- the link of an edge, from its smaller fragment to its larger one
abbrev pub link_at : Fragments → Net → ℕ → Ends
link_at f net e = link_between (rect_at (map corners_of f.rects) (edge_at net.graph e).a)
    (rect_at (map corners_of f.rects) (edge_at net.graph e).b)

-- the link s of the edge e ends on this fragment, at this point
abbrev pub EndsAt : Edge → Ends → ℕ → Point → Type 0
EndsAt e s v p = ((e.a ≡ v) × IsAt p s.x1 s.y1) ⊎ ((e.b ≡ v) × IsAt p s.x2 s.y2)

-- The links s and t of two edges cross: they have a point in common that is not an end of both on one fragment that both
-- edges join.
pub record AreCrossing (d : Edge) (s : Ends) (e : Edge) (t : Ends) : Type 0 where
  pub point : Point
  pub first : IsOn s point
  pub second : IsOn t point
  pub apart : (v : ℕ) → EndsAt d s v point → ¬ EndsAt e t v point

-- a point in doubled grid units lies in a rectangle or on its border
pub record IsInside (r : Corners) (p : Point) : Type 0 where
  pub left : (pos p.over *ℤ (pos 2 *ℤ r.x1)) ≤ℤ p.x
  pub right : p.x ≤ℤ (pos p.over *ℤ (pos 2 *ℤ r.x2))
  pub low : (pos p.over *ℤ (pos 2 *ℤ r.y1)) ≤ℤ p.y
  pub high : p.y ≤ℤ (pos p.over *ℤ (pos 2 *ℤ r.y2))

-- a link and a rectangle with its border have a point in common
pub record MeetsRect (s : Ends) (r : Corners) : Type 0 where
  pub point : Point
  pub on : IsOn s point
  pub inside : IsInside r point

-- what the link of an edge crosses: the link of a larger edge, or a fragment that the edge does not join
abbrev pub IsWith : Fragments → Net → ℕ → With → Type 0
IsWith f net e (Link d) = (e < d) × (d < length net.graph.edges)
    × AreCrossing (edge_at net.graph e) (link_at f net e) (edge_at net.graph d) (link_at f net d)
IsWith f net e (Fragment v) = (v < length f.rects) × ((edge_at net.graph e).a ≢ v) × ((edge_at net.graph e).b ≢ v)
    × MeetsRect (link_at f net e) (rect_at (map corners_of f.rects) v)

-- an edge and what its link crosses
pub record IsCrossing (f : Fragments) (net : Net) (c : Crossing) : Type 0 where
  pub edge : c.edge < length net.graph.edges
  pub crosses : IsWith f net c.edge c.other

-- no link crosses a link or a third fragment
abbrev pub HasNoCrossing : Fragments → Net → Type 0
HasNoCrossing f net = (c : Crossing) → ¬ IsCrossing f net c
