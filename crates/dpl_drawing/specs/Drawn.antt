-- What stands between two edges while the edges of a net are drawn one by one. Only the steps of `draw` say this.
use Rattle.std.specs.Prelude.{◌≡◌, ◌≢◌, ℕ, ◌+◌, ◌*◌, ◌<◌, ◌↔◌, Bool, List, length, slice_index, swap}
use Rattle.dpl_ring.specs.Rings.{least_of}
use Rattle.dpl_sign.specs.declared.nets.Net.{Net}
use Rattle.dpl_sign.specs.Rotations.{Leaves}
use Rattle.dpl_sign.specs.Components.{component_of, component_count}
use Rattle.dpl_drawing.specs.Faces.{AreFaces}

-- two nodes are on one cycle exactly where edges of the set join them
pub record AreParts (net : Net) (set : ℕ → Bool) (nexts : List ℕ) : Type 0 where
  pub nodes : length nexts ≡ net.graph.nodes
  pub joined : (u v : ℕ) → u < net.graph.nodes → v < net.graph.nodes →
      (least_of nexts u ≡ least_of nexts v ↔ component_of net.graph set u
      ≡ component_of net.graph set v)

-- the drawing of the edges of a set
pub record IsDrawn (net : Net) (set : ℕ → Bool) (faces parts : List ℕ)
    (components : ℕ) : Type 0 where
  pub are_faces : AreFaces net set faces
  pub are_parts : AreParts net set parts
  pub counted : components ≡ component_count net.graph set

-- ---- one edge more

-- the one number i that led to next, and twin, are exchanged
pub record IsExchanged (old : List ℕ) (next twin : ℕ) (new : List ℕ) (i : ℕ) : Type 0 where
  pub inside : i < length old
  pub leads : slice_index old i ≡ next
  pub only : (k : ℕ) → k < length old → slice_index old k ≡ next → k ≡ i
  pub swapped : new ≡ swap old i twin

-- A dart of a new edge comes before next around its node. Where next is the dart itself, its node has no other.
pub record IsAttached (old : List ℕ) (dart next twin : ℕ) (new : List ℕ) : Type 0 where
  pub stays : next ≡ dart → new ≡ old
  pub moves : next ≢ dart → (i : ℕ) × IsExchanged old next twin new i

-- the two darts of an edge, each before the dart that is next around its node
abbrev pub IsInserted : List ℕ → ℕ → ℕ → ℕ → List ℕ → Type 0
IsInserted old edge next next_twin new = (mid : List ℕ) ×
    IsAttached (swap old (2 * edge) (2 * edge + 1)) (2 * edge) next (2 * edge + 1) mid ×
    IsAttached mid (2 * edge + 1) next_twin (2 * edge) new

-- ---- a dart of each node from which the others are near

-- what stands for no dart
abbrev pub no_dart : ℕ
no_dart = 4294967295

-- a dart of the set that leaves a node, or a number that stands for none where there is none
pub record IsLast (net : Net) (set : ℕ → Bool) (v last : ℕ) : Type 0 where
  pub bare : last ≡ no_dart → (d : ℕ) → Leaves net set v d → ⊥
  pub used : last ≢ no_dart → Leaves net set v last

pub record AreLasts (net : Net) (set : ℕ → Bool) (lasts : List ℕ) : Type 0 where
  pub per_node : length lasts ≡ net.graph.nodes
  pub each : (v : ℕ) → v < net.graph.nodes → IsLast net set v (slice_index lasts v)
