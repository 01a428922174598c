use Rattle.std.proofs.Common.{arith}
use Rattle.std.proofs.lemmas.Int.{ints}
use Rattle.dpl_cover.proofs.MergeLemmas.{merging_join, merging_push, merging_end, merging_separate}
use Rattle.dpl_cover.proofs.merging.merged_with.Goals as goal
use Rattle.dpl_cover.proofs.merging.merged_with.Goals.{then-part-last, else-part-last+in_ok-push}

pub loop-part-preserved : goal.loop-part-preserved
loop-part-preserved c = elim c.if-part-last.branch [
  | then-part-last w ↦ rw (w.merged-is, w.last-is) (merging_join _ _ _ _ c.loop-part.last c.part-item.result _
      c.loop-part.invariant c.loop-part-test.true c.part-item.is w.joined-last.ensures.from w.joined-last.ensures.same)
  | else-part-last+in_ok-push w ↦ rw (w.merged-is, w.last-is, w.in_ok-push.ensures.items)
      (merging_push _ _ _ _ c.loop-part.last _ c.requires.sorted c.loop-part.invariant c.loop-part-test.true
      c.part-item.is (let h = w.if-part-last.false in grind (arith, ints)))
]

pub returns-clause-separate : goal.returns-clause-separate
returns-clause-separate c = merging_separate _ _ _ _ _ c.loop-part.last c.loop-part.invariant c.in_ok-push-2.ensures.items

pub returns-clause-same : goal.returns-clause-same
returns-clause-same c = merging_end _ _ c.loop-part.part-index _ _ c.loop-part.last c.loop-part-test.false c.loop-part.invariant c.in_ok-push-2.ensures.items
