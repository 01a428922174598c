use Rattle.std.proofs.Common.{◌<◌}
use Rattle.dpl_sign.proofs.BondLemmas.{FirstBelow}
use Rattle.dpl_sign.proofs.graph_tests.are_bonds_first.Given as goal

abbrev pub invariant-loop-next : goal.invariant-loop-next
invariant-loop-next l = (0 < l.next) × FirstBelow l.edges l.next
