-- Components of two nets that are the same. A node is known by its rectangle: no two nodes of a net have the same.
use Rattle.std.specs.Prelude.{◌≡◌, ℕ, ◌<◌, true, List, length, map, slice_index_or}
use Rattle.dpl_cell.specs.declared.rect.Rect.{Rect}
use Rattle.dpl_cell.specs.Places.{Corners, corners_of}
use Rattle.dpl_cuts.specs.Positions.{rect_at}
use Rattle.dpl_sign.specs.declared.nets.Net.{Net}
use Rattle.dpl_sign.specs.declared.ports.Port.{Port}
use Rattle.dpl_sign.specs.Drawings.{no_port}
use Rattle.dpl_sign.specs.Walks.{edge_at}
use Rattle.dpl_parts.specs.Components.{are_one_component}

-- the rectangle of a node
abbrev pub corners_at : List Rect → ℕ → Corners
corners_at rects v = rect_at (map corners_of rects) v

-- where an edge leaves its two ends
abbrev pub ports_at : Net → ℕ → Port × Port
ports_at net e = slice_index_or net.ports e (no_port, no_port)

-- an edge of one net and an edge of another lead between the same two rectangles, with one kind, weight and ports
pub record AreEdgesAlike (f g : List Rect) (n m : Net) (e d : ℕ) : Type 0 where
  pub first : corners_at f (edge_at n.graph e).a ≡ corners_at g (edge_at m.graph d).a
  pub second : corners_at f (edge_at n.graph e).b ≡ corners_at g (edge_at m.graph d).b
  pub kind : (edge_at n.graph e).kind ≡ (edge_at m.graph d).kind
  pub weight : (edge_at n.graph e).weight ≡ (edge_at m.graph d).weight
  pub ports : ports_at n e ≡ ports_at m d

-- a node of the component of v
abbrev pub IsNodeOf : Net → ℕ → ℕ → Type 0
IsNodeOf n v x = (x < n.graph.nodes) × (are_one_component n v x ≡ true)

-- an edge of the component of v
abbrev pub IsEdgeOf : Net → ℕ → ℕ → Type 0
IsEdgeOf n v e = (e < length n.graph.edges) × (are_one_component n v (edge_at n.graph e).a ≡ true)

-- The component of v in one net and that of w in another have the same rectangles, and on the same pairs of them edges
-- of the same kinds, weights and ports. The zones at stitches need not be compared: the rectangles at a cut tell its zone.
pub record AreSame (f g : List Rect) (n m : Net) (v w : ℕ) : Type 0 where
  pub nodes : (x : ℕ) → IsNodeOf n v x → (y : ℕ) × IsNodeOf m w y × (corners_at f x ≡ corners_at g y)
  pub nodes_back : (y : ℕ) → IsNodeOf m w y → (x : ℕ) × IsNodeOf n v x × (corners_at f x ≡ corners_at g y)
  pub edges : (e : ℕ) → IsEdgeOf n v e → (d : ℕ) × IsEdgeOf m w d × AreEdgesAlike f g n m e d
  pub edges_back : (d : ℕ) → IsEdgeOf m w d → (e : ℕ) × IsEdgeOf n v e × AreEdgesAlike f g n m e d
