-- Some of the nodes of a net and the edges between them.
use Rattle.std.specs.Prelude.{◌≡◌, ◌==◌, ℕ, zero, suc, ◌<◌, Bool, true, false, List, [], ◌∷◌, ◌++◌, length, slice_index_or, if◌then◌else◌}
use Rattle.dpl_sign.specs.declared.edges.Edge.{Edge}
use Rattle.dpl_sign.specs.declared.nets.Net.{Net}
use Rattle.dpl_sign.specs.Walks.{no_edge}

-- whether a node is taken
abbrev pub is_taken : List Bool → ℕ → Bool
is_taken taken v = slice_index_or taken v false

-- no edge leads from a taken node to another one
abbrev pub AreClosed : List Bool → List Edge → Type 0
AreClosed taken edges = (e : ℕ) → e < length edges →
    is_taken taken (slice_index_or edges e no_edge).a ≡ is_taken taken (slice_index_or edges e no_edge).b

-- the numbers below k that pass a test, in order
abbrev pub picked_below : (ℕ → Bool) → ℕ → List ℕ
picked_below test zero = []
picked_below test (suc k) =
    if test k then picked_below test k ++ k ∷ [] else picked_below test k

-- whether an edge ends at taken nodes
abbrev pub is_edge_taken : List Bool → List Edge → ℕ → Bool
is_edge_taken taken edges e = is_taken taken (slice_index_or edges e no_edge).a

-- the place of a number among those that pass a test
abbrev pub place_in : (ℕ → Bool) → ℕ → ℕ
place_in test v = length (picked_below test v)

-- an edge with other numbers for its ends
pub record IsRenumbered (old new : Edge) (place : List ℕ) : Type 0 where
  pub first : new.a ≡ slice_index_or place old.a 0
  pub second : new.b ≡ slice_index_or place old.b 0
  pub kind : new.kind ≡ old.kind
  pub weight : new.weight ≡ old.weight

-- the places of the two ends of an edge are there, in order
pub record HasPlaces (edge : Edge) (place : List ℕ) : Type 0 where
  pub first : edge.a < length place
  pub second : edge.b < length place
  pub order : slice_index_or place edge.a 0 < slice_index_or place edge.b 0

-- whether a number has a label
abbrev pub has_label : List ℕ → ℕ → ℕ → Bool
has_label labels c v = slice_index_or labels v 0 == c

-- These are the taken nodes and the edges between them, where no edge leads from them to others, and at each of these
-- nodes stands its place among them.
pub record ArePicked (whole : Net) (nodes place picks : List ℕ) : Type 0 where
  pub taken : List Bool
  pub long : length taken ≡ whole.graph.nodes
  pub closed : AreClosed taken whole.graph.edges
  pub nodes_are : nodes ≡ picked_below (is_taken taken) (length taken)
  pub place_long : length place ≡ length taken
  pub place_each : (v : ℕ) → v < length taken → is_taken taken v ≡ true →
      slice_index_or place v 0 ≡ place_in (is_taken taken) v
  pub picks_are : picks ≡ picked_below (is_edge_taken taken whole.graph.edges) (length whole.graph.edges)
