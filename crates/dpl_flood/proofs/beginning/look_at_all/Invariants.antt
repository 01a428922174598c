use Rattle.dpl_flood.specs.Starts.{AreFirst}
use Rattle.dpl_flood.specs.States.{sea_of}
use Rattle.dpl_flood.proofs.beginning.look_at_all.Given as goal

abbrev pub invariant-loop-i : goal.invariant-loop-i
invariant-loop-i l = AreFirst l.dual (sea_of l.state) l.faces l.i l.fn.queue l.queue
