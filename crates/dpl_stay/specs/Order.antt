-- The order of rectangles and of edges.
use Rattle.std.specs.Prelude.{◌≡◌, ℕ, Bool, true, false, nat_lt, int_lt, List, length, AllPairs, if◌then◌else◌}
use Rattle.dpl_cell.specs.declared.rect.Rect.{Rect}
use Rattle.dpl_cell.specs.Places.{Corners, corners_of}
use Rattle.dpl_cell.specs.Tiles.{IsBefore}
use Rattle.dpl_sign.specs.declared.edges.Kind.{Kind}
use Rattle.dpl_sign.specs.declared.edges.Kind.TheVariants.{Bond, Stitch, Clash}
use Rattle.dpl_sign.specs.declared.edges.Edge.{Edge}
use Rattle.dpl_sign.specs.declared.nets.Net.{Net}
use Rattle.dpl_stay.specs.declared.finding.Key.{Key}

-- lower, or at one height and further left
abbrev pub rect_before : Corners → Corners → Bool
rect_before a b = if int_lt a.y1 b.y1 then true else if int_lt b.y1 a.y1 then false else int_lt a.x1 b.x1

-- bonds stand before stitches, and these before clashes
abbrev pub rank_of : Kind → ℕ
rank_of Bond = 0
rank_of Stitch = 1
rank_of Clash = 2

-- what an edge is looked for by
abbrev pub key_of : Edge → Key
key_of e = record { rank = rank_of e.kind; a = e.a; b = e.b }

-- by the kind, then by the first end, then by the second
abbrev pub key_before : Key → Key → Bool
key_before j k = if nat_lt j.rank k.rank then true else if nat_lt k.rank j.rank then false
    else if nat_lt j.a k.a then true else if nat_lt k.a j.a then false else nat_lt j.b k.b

-- the rectangles stand in order, no two at one corner
abbrev pub AreRectsInOrder : List Rect → Type 0
AreRectsInOrder rects = AllPairs (λ r s. IsBefore (corners_of r) (corners_of s)) rects

-- the edges stand in order, no two of one kind with the same ends
abbrev pub AreEdgesInOrder : List Edge → Type 0
AreEdgesInOrder edges = AllPairs (λ e f. key_before (key_of e) (key_of f) ≡ true) edges

-- rectangles in order, and a net of as many nodes with its edges in order
pub record IsInOrder (rects : List Rect) (net : Net) : Type 0 where
  pub order : AreRectsInOrder rects
  pub edges : AreEdgesInOrder net.graph.edges
  pub nodes : net.graph.nodes ≡ length rects
