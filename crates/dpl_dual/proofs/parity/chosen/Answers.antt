use Rattle.std.proofs.Common.{ap, ◌∙◌, Vec, false}
use Rattle.std.specs.Prelude.{slice_index_or}
use Rattle.dpl_dual.proofs.parity.chosen.Goals as goal
use Rattle.dpl_dual.proofs.parity.chosen.Goals.{then-test-face+in_ok-push, else-test-face}
use Rattle.dpl_map.proofs.RowLemmas.{chosen_no, chosen_yes}

pub loop-face-preserved : goal.loop-face-preserved
loop-face-preserved c = elim c.if-test-face.branch [
  | then-test-face+in_ok-push w ↦ chosen_yes (λ f. slice_index_or c.args.test.now f false) _ _ _ c.loop-face.invariant
      w.if-test-face.true (ap (λ (z : Vec _ _). z.items) w.list-is ∙ w.in_ok-push.ensures.items)
  | else-test-face w ↦ chosen_no (λ f. slice_index_or c.args.test.now f false) _ _ _ c.loop-face.invariant
      w.if-test-face.false (ap (λ (z : Vec _ _). z.items) w.list-is)
]
