use Rattle.dpl_pack.specs.Marks.{AreCleared}
use Rattle.dpl_pack.specs.Ranks.{first_faces}
use Rattle.dpl_pack.proofs.ranks.clear_first.Given as goal

abbrev pub invariant-loop-i : goal.invariant-loop-i
invariant-loop-i l = AreCleared (first_faces l.order l.i) l.fn.inside l.inside
