use Rattle.dpl_pack.specs.Notes.{AreNoted}
use Rattle.dpl_pack.proofs.checks.note_all.Given as goal

abbrev pub invariant-loop-i : goal.invariant-loop-i
invariant-loop-i l = AreNoted l.dual l.start l.n l.held l.i l.notes
