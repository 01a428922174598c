use Rattle.dpl_flood.specs.Queues.{IsClimbing}
use Rattle.dpl_flood.proofs.keys.write.Given as goal

abbrev pub invariant-loop-here : goal.invariant-loop-here
invariant-loop-here l = IsClimbing l.count l.place l.key l.fn.least l.least l.here

abbrev pub decreases-loop-here : goal.decreases-loop-here
decreases-loop-here l = l.here
