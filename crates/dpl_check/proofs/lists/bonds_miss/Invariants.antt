use Rattle.std.proofs.Common.{◌≡◌, drop}
use Rattle.dpl_good.specs.Conditions as conditions
use Rattle.dpl_check.proofs.lists.bonds_miss.Given as goal

abbrev pub invariant-loop-edge : goal.invariant-loop-edge
invariant-loop-edge l = record {
  miss : conditions.bonds_miss l.colours l.e (drop l.edge-index l.edges) ≡ conditions.bonds_miss l.colours 0 l.edges;
  number : l.e ≡ l.edge-index;
}
