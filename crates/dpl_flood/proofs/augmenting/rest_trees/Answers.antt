use Rattle.std.proofs.Common.{◌+◌, sym, subst}
use Rattle.dpl_flood.proofs.AugmentLemmas.{AreResting, resting_more, resting_on}
use Rattle.dpl_flood.proofs.augmenting.rest_trees.Goals.{then-stands_in, else-stands_in}
use Rattle.dpl_flood.proofs.augmenting.rest_trees.Goals as goal

pub loop-i-preserved : goal.loop-i-preserved
loop-i-preserved c = elim c.if-stands_in.branch [
  | then-stands_in w ↦ subst (λ z. AreResting c.args.tree.now c.args.one c.args.two c.args.rests.now z (c.loop-i.i + 1)) (sym w.rests-is)
      (resting_more c.args.tree.now c.args.one c.args.two c.args.rests.now c.loop-i.rests c.loop-i.i c.loop-i.invariant (c.stands_in.ensures.yes w.if-stands_in.true))
  | else-stands_in w ↦ subst (λ z. AreResting c.args.tree.now c.args.one c.args.two c.args.rests.now z (c.loop-i.i + 1)) (sym w.rests-is)
      (resting_on c.args.tree.now c.args.one c.args.two c.args.rests.now c.loop-i.rests c.loop-i.i c.loop-i.invariant (c.stands_in.ensures.no w.if-stands_in.false))
]
