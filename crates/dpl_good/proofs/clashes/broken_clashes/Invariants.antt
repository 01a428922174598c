use Rattle.std.proofs.Common.{◌≡◌, ◌++◌, drop}
use Rattle.dpl_good.specs.Conditions as conditions
use Rattle.dpl_good.proofs.clashes.broken_clashes.Given as goal

abbrev pub invariant-loop-edge : goal.invariant-loop-edge
invariant-loop-edge l = record {
  found : l.found.items ++ conditions.clashes_from l.colours l.e (drop l.edge-index l.edges) ≡ conditions.clashes_from l.colours 0 l.edges;
  number : l.e ≡ l.edge-index;
}
