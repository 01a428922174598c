use Rattle.dpl_flood.specs.Givings.{AreKeyedAll}
use Rattle.dpl_flood.proofs.giving.look_tops.Given as goal

abbrev pub invariant-loop-i : goal.invariant-loop-i
invariant-loop-i l = AreKeyedAll l.dual l.state l.tops l.i l.fn.queue l.queue
