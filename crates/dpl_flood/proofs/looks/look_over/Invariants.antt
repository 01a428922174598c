use Rattle.dpl_flood.specs.States.{AreKeyed, sea_of}
use Rattle.dpl_flood.proofs.looks.look_over.Given as goal

abbrev pub invariant-loop-i : goal.invariant-loop-i
invariant-loop-i l = AreKeyed l.dual (sea_of l.state) l.steps l.i l.fn.queue l.queue
