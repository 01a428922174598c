use Rattle.dpl_flood.proofs.AugmentLemmas.{AreResting}
use Rattle.dpl_flood.proofs.augmenting.rest_trees.Given as goal

abbrev pub invariant-loop-i : goal.invariant-loop-i
invariant-loop-i l = AreResting l.tree l.one l.two l.fn.rests l.rests l.i
