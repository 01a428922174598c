use Rattle.std.proofs.Common.{◌≡◌, ◌≤◌}
use Rattle.dpl_sign.specs.Drawings.{is_in as in_set}
use Rattle.dpl_cycle.specs.Sums.{count_on}
use Rattle.dpl_plain.proofs.euler.edge_count.Given as goal

abbrev pub invariant-loop-edge : goal.invariant-loop-edge
invariant-loop-edge l = (l.count ≡ count_on (in_set l.set) l.edge) × (l.count ≤ l.edge)
