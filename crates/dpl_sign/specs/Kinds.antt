-- The kinds of edges, and what the edges of one graph keep.
use Rattle.std.specs.Prelude.{◌≡◌, ℕ, ◌<◌, ◌^◌, Bool, true, false, List, length, slice_index_or, All}
use Rattle.dpl_sign.specs.declared.edges.Kind.{Kind}
use Rattle.dpl_sign.specs.declared.edges.Kind.TheVariants.{Bond, Stitch, Clash}
use Rattle.dpl_sign.specs.declared.edges.Edge.{Edge}

abbrev pub is_bond : Kind → Bool
is_bond Bond = true
is_bond Stitch = false
is_bond Clash = false

abbrev pub is_clash : Kind → Bool
is_clash Bond = false
is_clash Stitch = false
is_clash Clash = true

-- both ends of each edge are nodes, since the second is the greater
abbrev pub EndsBelow : ℕ → List Edge → Type 0
EndsBelow nodes edges = All (λ e. e.b < nodes) edges

-- before a bond stand only bonds
abbrev pub BondsFirst : List Edge → Type 0
BondsFirst edges = (j k : ℕ) (d : Edge) → j < k → k < length edges →
    is_bond (slice_index_or edges k d).kind ≡ true → is_bond (slice_index_or edges j d).kind ≡ true

-- the nodes and the edges are those of a graph
pub record IsGraph (nodes : ℕ) (edges : List Edge) : Type 0 where
  pub few_nodes : nodes < 2 ^ 31
  pub few_edges : length edges < 2 ^ 30
  pub inside : EndsBelow nodes edges
  pub bonds_first : BondsFirst edges
