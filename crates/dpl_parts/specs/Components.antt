-- The components of a net: the classes of its nodes under all its edges.
use Rattle.std.specs.Prelude.{◌≡◌, ◌↔◌, ◌==◌, ℕ, ◌<◌, Bool, List, length, slice_index_or}
use Rattle.dpl_classes.specs.Classes.{next_label, IsNumbered}
use Rattle.dpl_sign.specs.declared.nets.Net.{Net}
use Rattle.dpl_sign.specs.Components.{component_of, AreJoined}
use Rattle.dpl_sign.specs.Excess.{all_edges}

-- two nodes are of one component
abbrev pub are_one_component : Net → ℕ → ℕ → Bool
are_one_component net u v =
    component_of net.graph all_edges v == component_of net.graph all_edges u

-- Each node has the number of its component: two have one number exactly where edges lead from one to the other, and
-- components are numbered from 0 in the order of their least nodes.
pub record AreComponents (net : Net) (number : List ℕ) : Type 0 where
  pub long : length number ≡ net.graph.nodes
  pub same : (u v : ℕ) → u < net.graph.nodes → v < net.graph.nodes →
      (slice_index_or number u 0 ≡ slice_index_or number v 0) ↔ AreJoined net.graph all_edges u v
  pub numbered : IsNumbered number (next_label number)
