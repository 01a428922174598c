-- What stands for the nodes and the edges of one net in another.
use Rattle.std.specs.Prelude.{◌≡◌, ℕ, ◌<◌, List, length, slice_index_or, Option, None, Some, MatchOption}
use Rattle.dpl_cell.specs.declared.rect.Rect.{Rect}
use Rattle.dpl_cell.specs.Places.{Corners}
use Rattle.dpl_sign.specs.declared.nets.Net.{Net}
use Rattle.dpl_sign.specs.declared.edges.Edge.{Edge}
use Rattle.dpl_sign.specs.declared.ports.Port.{Port}
use Rattle.dpl_sign.specs.Walks.{no_edge, edge_at}
use Rattle.dpl_stay.specs.declared.finding.Key.{Key}
use Rattle.dpl_stay.specs.Order.{key_of}
use Rattle.dpl_stay.specs.Same.{corners_at, ports_at}

abbrev pub at : List (Option ℕ) → ℕ → Option ℕ
at list v = slice_index_or list v None

-- the node with these corners, or none where there is no such node
abbrev pub IsNodeAt : List Rect → Corners → Option ℕ → Type 0
IsNodeAt rects r o = MatchOption o ((w : ℕ) → w < length rects → ¬ (corners_at rects w ≡ r))
    (λ w. (w < length rects) × (corners_at rects w ≡ r))

-- the edge with this key, or none where there is no such edge
abbrev pub IsEdgeWith : List Edge → Key → Option ℕ → Type 0
IsEdgeWith edges k o = MatchOption o
    ((d : ℕ) → d < length edges → ¬ (key_of (slice_index_or edges d no_edge) ≡ k))
    (λ d. (d < length edges) × (key_of (slice_index_or edges d no_edge) ≡ k))

-- for each rectangle of f the node of g that has it
pub record ArePartners (f g : List Rect) (partners : List (Option ℕ)) : Type 0 where
  pub long : length partners ≡ length f
  pub each : (v : ℕ) → v < length f → IsNodeAt g (corners_at f v) (at partners v)

-- the edge d of m leads between the partners of the ends of e, and has its kind, weight and ports
pub record IsAlikeBy (partners : List (Option ℕ)) (m : Net) (e : Edge) (p : Port × Port) (d : ℕ) : Type 0 where
  pub first : at partners e.a ≡ Some (edge_at m.graph d).a
  pub second : at partners e.b ≡ Some (edge_at m.graph d).b
  pub kind : (edge_at m.graph d).kind ≡ e.kind
  pub weight : (edge_at m.graph d).weight ≡ e.weight
  pub ports : p ≡ ports_at m d

-- the edge of m that is alike, or none where there is no such edge
abbrev pub IsTwinBy : List (Option ℕ) → Net → Edge → Port × Port → Option ℕ → Type 0
IsTwinBy partners m e p o = MatchOption o
    ((d : ℕ) → d < length m.graph.edges → ¬ IsAlikeBy partners m e p d)
    (λ d. (d < length m.graph.edges) × IsAlikeBy partners m e p d)

-- for each edge of n the edge of m that is alike
pub record AreTwinsBy (partners : List (Option ℕ)) (n m : Net) (twins : List (Option ℕ)) : Type 0 where
  pub long : length twins ≡ length n.graph.edges
  pub each : (e : ℕ) → e < length n.graph.edges →
      IsTwinBy partners m (edge_at n.graph e) (ports_at n e) (at twins e)
