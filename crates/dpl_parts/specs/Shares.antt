-- A net as the sum of its components.
use Rattle.std.specs.Prelude.{◌≡◌, ◌≢◌, ℕ, ◌<◌, Bool, List, map, All, AllPairs, Contains}
use Rattle.std.specs.List.{flat_map}
use Rattle.dpl_sign.specs.Colourings.{colour_of}
use Rattle.dpl_sign.specs.declared.nets.Net.{Net}
use Rattle.dpl_sign.specs.declared.walks.Cycle.{Cycle}
use Rattle.dpl_sign.specs.Drawings.{dart_count}
use Rattle.dpl_parts.specs.Parts.{IsPartOf, dart, AreOfOneKeptPart}

-- the net of some components, the numbers that its nodes and its edges have in the whole, and colours and cycles in its
-- own numbers
pub record Part : Type 0 where
  pub net : Net
  pub node : ℕ → ℕ
  pub edge : ℕ → ℕ
  pub colours : List Bool
  pub cycles : List Cycle

-- no node is in both
abbrev pub AreApart : Part → Part → Type 0
AreApart p q = (u v : ℕ) → u < p.net.graph.nodes → v < q.net.graph.nodes → p.node u ≢ q.node v

-- one of the parts has the node
pub record IsInSome (parts : List Part) (w : ℕ) : Type 0 where
  pub part : Part
  pub among : Contains parts part
  pub own : ℕ
  pub below : own < part.net.graph.nodes
  pub is : part.node own ≡ w

-- each node of the whole is in exactly one of these parts of it, and so is each edge
pub record ShareOut (whole : Net) (parts : List Part) : Type 0 where
  pub are : All (λ p. IsPartOf p.net whole p.node p.edge) parts
  pub apart : AllPairs AreApart parts
  pub all : (w : ℕ) → w < whole.graph.nodes → IsInSome parts w

-- each node has in the whole the colour that it has in its part
abbrev pub AgreeWith : List Bool → List Part → Type 0
AgreeWith colours parts = All (λ p. (v : ℕ) → v < p.net.graph.nodes →
    colour_of colours (p.node v) ≡ colour_of p.colours v) parts

-- a cycle of a part in the numbers of the whole
abbrev pub renumbered : Part → Cycle → Cycle
renumbered p c = record {
  half = c.half;
  walk = record { start = p.node c.walk.start; edges = map p.edge c.walk.edges };
}

-- the cycles of all parts in the numbers of the whole, those of each part behind those of the parts before
abbrev pub all_cycles : List Part → List Cycle
all_cycles parts = flat_map (λ p. map (renumbered p) p.cycles) parts

-- two faces, named by their least darts, that are faces of one of the parts and of one part of its dual
pub record AreTogether (parts : List Part) (f g : ℕ) : Type 0 where
  pub part : Part
  pub among : Contains parts part
  pub first : ℕ
  pub second : ℕ
  pub first_below : first < dart_count part.net
  pub second_below : second < dart_count part.net
  pub first_is : dart part.edge first ≡ f
  pub second_is : dart part.edge second ≡ g
  pub linked : AreOfOneKeptPart part.net first second
