-- A net of some of the components of another net, and what is asked of colourings of both.
use Rattle.std.specs.Prelude.{◌≡◌, ◌≢◌, ◌⊎◌, ℕ, ◌+◌, ◌*◌, ◌/◌, ◌%◌, ◌<◌, ◌≤◌, ◌&&◌, Bool, List, length, slice_index_or}
use Rattle.dpl_cycle.specs.Sums.{sum_on}
use Rattle.dpl_sign.specs.Colourings.{IsColouring, breaks, colour_of}
use Rattle.dpl_sign.specs.declared.nets.Net.{Net}
use Rattle.dpl_sign.specs.Walks.{edge_at}
use Rattle.dpl_sign.specs.Drawings.{no_port, is_in, face_of}
use Rattle.dpl_sign.specs.Parity.{AreOfOnePart}
use Rattle.dpl_sign.specs.Excess.{kept_edges}

-- Each node and each edge of the part is one of the whole, each another one, the edges in their order, with their ends,
-- kinds, weights and ports; and no other edge of the whole ends at a node of the part. So the part is one component of
-- the whole, or some of them together.
pub record IsPartOf (part whole : Net) (node edge : ℕ → ℕ) : Type 0 where
  pub nodes : (v : ℕ) → v < part.graph.nodes → node v < whole.graph.nodes
  pub apart : (u v : ℕ) → u < part.graph.nodes → v < part.graph.nodes → node u ≡ node v → u ≡ v
  pub edges : (e : ℕ) → e < length part.graph.edges → edge e < length whole.graph.edges
  pub order : (e f : ℕ) → e < f → f < length part.graph.edges → edge e < edge f
  pub first : (e : ℕ) → e < length part.graph.edges →
      (edge_at whole.graph (edge e)).a ≡ node (edge_at part.graph e).a
  pub second : (e : ℕ) → e < length part.graph.edges →
      (edge_at whole.graph (edge e)).b ≡ node (edge_at part.graph e).b
  pub kind : (e : ℕ) → e < length part.graph.edges →
      (edge_at whole.graph (edge e)).kind ≡ (edge_at part.graph e).kind
  pub weight : (e : ℕ) → e < length part.graph.edges →
      (edge_at whole.graph (edge e)).weight ≡ (edge_at part.graph e).weight
  pub ports : (e : ℕ) → e < length part.graph.edges →
      slice_index_or whole.ports (edge e) (no_port, no_port)
      ≡ slice_index_or part.ports e (no_port, no_port)
  pub closed : (f v : ℕ) → f < length whole.graph.edges → v < part.graph.nodes →
      ((edge_at whole.graph f).a ≡ node v) ⊎ ((edge_at whole.graph f).b ≡ node v) →
      (e : ℕ) × (e < length part.graph.edges) × (edge e ≡ f)

-- the dart of the whole that a dart of the part is
abbrev pub dart : (ℕ → ℕ) → ℕ → ℕ
dart edge d = 2 * edge (d / 2) + d % 2

-- the face of the kept edges on which a dart lies
abbrev pub face_at : Net → ℕ → ℕ
face_at net d = face_of net (is_in (kept_edges net)) d

-- two faces of the kept edges are of one part of the dual
abbrev pub AreOfOneKeptPart : Net → ℕ → ℕ → Type 0
AreOfOneKeptPart net = AreOfOnePart net (is_in (kept_edges net))

-- the weight of the broken edges among those that the net keeps
abbrev pub broken_on : Net → List Bool → ℕ
broken_on net colours = sum_on (λ e. is_in (kept_edges net) e && breaks colours (edge_at net.graph e))
    (λ e. (edge_at net.graph e).weight) (length net.graph.edges)

-- the nodes of the part have these colours, and the others those that they had
pub record IsMixed (part whole : Net) (node : ℕ → ℕ) (colours : List Bool) (tint : ℕ → Bool)
    (mixed : List Bool) : Type 0 where
  pub inside : (v : ℕ) → v < part.graph.nodes → colour_of mixed (node v) ≡ tint v
  pub others : (w : ℕ) → w < whole.graph.nodes → ((v : ℕ) → v < part.graph.nodes → node v ≢ w) →
      colour_of mixed w ≡ colour_of colours w

-- no colouring breaks kept edges of a smaller weight
abbrev pub IsBest : Net → List Bool → Type 0
IsBest net colours = (others : List Bool) → IsColouring net.graph others →
    broken_on net colours ≤ broken_on net others
