use Rattle.std.proofs.Common.{length, ◌≤◌}
use Rattle.dpl_flood.proofs.searching.find.Given as goal

abbrev pub invariant-loop-here : goal.invariant-loop-here
invariant-loop-here l = l.end ≤ length l.nodes

abbrev pub decreases-loop-here : goal.decreases-loop-here
decreases-loop-here l = l.end
