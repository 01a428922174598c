use Rattle.std.proofs.Common.{take}
use Rattle.dpl_pack.specs.Marks.{AreCleared}
use Rattle.dpl_pack.proofs.marks.clear.Given as goal

abbrev pub invariant-loop-i : goal.invariant-loop-i
invariant-loop-i l = AreCleared (take l.i l.places) l.fn.marks l.marks
