-- What crosses, by the tests that the code makes. Only the steps of the search for a crossing say this; `Crossings` says
-- the same over points.
use Rattle.std.specs.Prelude.{◌≡◌, ℕ, ◌<◌, ℤ, pos, ◌*ℤ◌, Bool, true, not, ◌&&◌, ◌||◌, ◌==◌, if◌then◌else◌, length, map}
use Rattle.std.specs.Int.{int_max, int_min}
use Rattle.std.specs.Ordering.{int_eq}
use Rattle.dpl_cell.specs.Places.{Corners, corners_of}
use Rattle.dpl_cuts.specs.declared.types.Fragments.{Fragments}
use Rattle.dpl_cuts.specs.Positions.{rect_at}
use Rattle.dpl_index.specs.declared.bounds.Bounds.{Bounds}
use Rattle.dpl_sign.specs.declared.edges.Edge.{Edge}
use Rattle.dpl_sign.specs.declared.nets.Net.{Net}
use Rattle.dpl_sign.specs.Walks.{edge_at}
use Rattle.dpl_euler.specs.declared.types.With.{With}
use Rattle.dpl_euler.specs.declared.types.With.TheVariants.{Link, Fragment}
use Rattle.dpl_euler.specs.Points.{Ends}
use Rattle.dpl_euler.specs.Segments.{are_left, are_right, bounds_meet, segments_meet, segments_overlap}
use Rattle.dpl_euler.specs.Crossings.{link_at}

-- two points are one
abbrev pub is_at : ℤ → ℤ → ℤ → ℤ → Bool
is_at x y x' y' = int_eq x x' && int_eq y y'

-- the link of the edge ends on this fragment, at this point
abbrev pub ends_at : Edge → Ends → ℕ → ℤ → ℤ → Bool
ends_at e s v x y = ((e.a == v) && is_at s.x1 s.y1 x y) || ((e.b == v) && is_at s.x2 s.y2 x y)

-- the links of two edges have an end in common, on a fragment that both join
abbrev pub share_end : Edge → Ends → Edge → Ends → Bool
share_end d s e t = ends_at e t d.a s.x1 s.y1 || ends_at e t d.b s.x2 s.y2

-- links that have such an end in common cross where they have more than one point in common
abbrev pub cross : Edge → Ends → Edge → Ends → Bool
cross d s e t = if share_end d s e t then segments_overlap s t else segments_meet s t

abbrev pub links_cross : Fragments → Net → ℕ → ℕ → Bool
links_cross f net d e =
    cross (edge_at net.graph d) (link_at f net d) (edge_at net.graph e) (link_at f net e)

-- a rectangle in doubled grid units, as the segment between its opposite corners
abbrev pub diagonal : Corners → Ends
diagonal r = record { x1 = pos 2 *ℤ r.x1; y1 = pos 2 *ℤ r.y1; x2 = pos 2 *ℤ r.x2; y2 = pos 2 *ℤ r.y2 }

-- the segment between the two other corners
abbrev pub other_diagonal : Corners → Ends
other_diagonal r = record { x1 = pos 2 *ℤ r.x1; y1 = pos 2 *ℤ r.y2; x2 = pos 2 *ℤ r.x2; y2 = pos 2 *ℤ r.y1 }

-- the least columns and rows that hold a segment
abbrev pub bounds_around : Ends → Bounds
bounds_around s = record {
  left = int_min s.x1 s.x2;
  right = int_max s.x1 s.x2;
  low = int_min s.y1 s.y2;
  high = int_max s.y1 s.y2;
}

-- the line leaves the whole rectangle, by its four corners, on one side
abbrev pub passes_by : Ends → Corners → Bool
passes_by s r = (are_left s (diagonal r) && are_left s (other_diagonal r))
    || (are_right s (diagonal r) && are_right s (other_diagonal r))

-- their bounds meet, and the line does not pass by
abbrev pub meets_rect : Ends → Corners → Bool
meets_rect s r = bounds_meet s (diagonal r) && not (passes_by s r)

-- the edge joins this fragment with another
abbrev pub joins : Edge → ℕ → Bool
joins e v = (e.a == v) || (e.b == v)

-- the link of an edge meets a fragment that the edge does not join
abbrev pub crosses_fragment : Fragments → Net → ℕ → ℕ → Bool
crosses_fragment f net e v = not (joins (edge_at net.graph e) v)
    && meets_rect (link_at f net e) (rect_at (map corners_of f.rects) v)

-- what the search for an edge finds
abbrev pub IsFound : Fragments → Net → ℕ → With → Type 0
IsFound f net e (Link d) = (e < d) × (d < length net.graph.edges) × (links_cross f net e d ≡ true)
IsFound f net e (Fragment v) = (v < length f.rects) × (crosses_fragment f net e v ≡ true)
