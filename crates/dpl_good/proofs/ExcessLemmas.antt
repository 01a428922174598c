-- How great the excess of a net can be.
use Rattle.std.proofs.Common.{arith, ℕ, ◌<◌, ◌^◌, Bool, length}
use Rattle.dpl_cycle.proofs.NameLemmas.{name_count_le}
use Rattle.dpl_cycle.proofs.SumLemmas.{count_on_le}
use Rattle.dpl_sign.specs.declared.nets.Net.{Net}
use Rattle.dpl_sign.specs.Components.{component_of}
use Rattle.dpl_sign.specs.Excess.{excess}

-- the excess is below 2^33
pub excess_most : (net : Net) (p : ℕ → Bool) → excess net p < 2 ^ 33
excess_most net p = omega (
  arith,
  name_count_le (component_of net.graph p) net.graph.nodes,
  count_on_le p (length net.graph.edges),
  net.graph.few_nodes,
  net.graph.few_edges,
)
