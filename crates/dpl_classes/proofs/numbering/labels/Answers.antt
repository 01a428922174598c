use Rattle.dpl_classes.proofs.LabelLemmas.{numbered_new, numbered_old}
use Rattle.dpl_classes.proofs.numbering.labels.Goals as goal
use Rattle.dpl_classes.proofs.numbering.labels.Goals.{then-root-i+in_ok-push, else-root-i+in_ok-push-2}

pub loop-i-preserved : goal.loop-i-preserved
loop-i-preserved c = elim c.if-root-i.branch [
  | then-root-i+in_ok-push w ↦ rw (w.label-is, w.count-is)
      (numbered_new _ c.loop-i.i _ _ _ c.requires.falls c.loop-i-test.true w.if-root-i.true w.in_ok-push.ensures.items
      c.loop-i.invariant)
  | else-root-i+in_ok-push-2 w ↦ rw (w.label-is, w.count-is)
      (numbered_old _ c.loop-i.i _ _ _ _ c.requires.falls c.requires.fixed c.loop-i-test.true w.if-root-i.false
      w.index-known.ensures w.in_ok-push-2.ensures.items c.loop-i.invariant)
]
