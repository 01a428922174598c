use Rattle.std.proofs.Common.{◌≡◌}
use Rattle.dpl_parts.specs.Picks.{is_taken, picked_below}
use Rattle.dpl_parts.proofs.gathering.taken_nodes.Given as goal

abbrev pub invariant-loop-v : goal.invariant-loop-v
invariant-loop-v l = l.found.items ≡ picked_below (is_taken l.taken) l.v
