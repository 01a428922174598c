use Rattle.std.proofs.Common.{◌≡◌, ◌≤◌}
use Rattle.dpl_sign.specs.Drawings.{is_in as in_set, is_bare as bare}
use Rattle.dpl_cycle.specs.Sums.{count_on}
use Rattle.dpl_plain.proofs.faces.bare_count.Given as goal

abbrev pub invariant-loop-node : goal.invariant-loop-node
invariant-loop-node l = (l.count ≡ count_on (bare l.graph (in_set l.set)) l.node) × (l.count ≤ l.node)
