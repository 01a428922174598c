use Rattle.dpl_laminar.specs.Storing.{sets_of}
use Rattle.dpl_flood.specs.Givings.{AreSettled}
use Rattle.dpl_flood.proofs.giving.settle.Given as goal

abbrev pub invariant-loop-i : goal.invariant-loop-i
invariant-loop-i l = AreSettled (sets_of l.family) l.set l.i l.fn.inners l.inners
