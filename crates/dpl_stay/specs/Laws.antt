-- What can be seen of a component: its rectangles, and its edges by the rectangles that they join.
use Rattle.std.specs.Prelude.{◌≡◌, ◌↔◌, ℕ, List}
use Rattle.dpl_cell.specs.declared.rect.Rect.{Rect}
use Rattle.dpl_cell.specs.Places.{Corners}
use Rattle.dpl_sign.specs.declared.edges.Kind.{Kind}
use Rattle.dpl_sign.specs.declared.nets.Net.{Net}
use Rattle.dpl_sign.specs.declared.ports.Port.{Port}
use Rattle.dpl_sign.specs.Walks.{edge_at}
use Rattle.dpl_stay.specs.Same.{corners_at, ports_at, IsNodeOf, IsEdgeOf}

-- an edge by what can be seen of it, and not by its number
pub record Sight : Type 0 where
  pub first : Corners
  pub second : Corners
  pub kind : Kind
  pub weight : ℕ
  pub ports : Port × Port

abbrev pub sight_of : List Rect → Net → ℕ → Sight
sight_of f n e = record {
  first = corners_at f (edge_at n.graph e).a;
  second = corners_at f (edge_at n.graph e).b;
  kind = (edge_at n.graph e).kind;
  weight = (edge_at n.graph e).weight;
  ports = ports_at n e;
}

-- a node of the component of v has this rectangle
abbrev pub HasRect : List Rect → Net → ℕ → Corners → Type 0
HasRect f n v r = (x : ℕ) × IsNodeOf n v x × (corners_at f x ≡ r)

-- an edge of the component of v is seen so
abbrev pub HasEdge : List Rect → Net → ℕ → Sight → Type 0
HasEdge f n v s = (e : ℕ) × IsEdgeOf n v e × (sight_of f n e ≡ s)

-- nothing can be seen by which the component of v in one net differs from that of w in another
pub record LookTheSame (f g : List Rect) (n m : Net) (v w : ℕ) : Type 0 where
  pub rects : (r : Corners) → HasRect f n v r ↔ HasRect g m w r
  pub edges : (s : Sight) → HasEdge f n v s ↔ HasEdge g m w s
