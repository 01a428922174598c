use Rattle.std.proofs.Common.{ap, sym, ◌∙◌}
use Rattle.std.proofs.lemmas.List.{get_or_default}
use Rattle.dpl_map.proofs.RowLemmas.{chosen_more, chosen_as_before}
use Rattle.dpl_map.proofs.rows.choose.Goals as goal
use Rattle.dpl_map.proofs.rows.choose.Goals.{then-is_in+in_ok-add, else-is_in}

pub loop-dart-preserved : goal.loop-dart-preserved
loop-dart-preserved c = elim c.if-is_in.branch [
  | then-is_in+in_ok-add w ↦ rw (w.faces-is, w.darts-is) (chosen_more c.args.set.now c.args.numbers.now c.loop-dart.dart _ _ _ _ _
      (sym c.is_in.ensures ∙ w.if-is_in.true) (get_or_default c.args.numbers.now c.loop-dart.dart _ 0 c.loop-dart-test.true)
      w.in_ok-add.ensures.faces w.in_ok-add.ensures.darts c.loop-dart.invariant)
  | else-is_in w ↦ chosen_as_before c.args.set.now c.args.numbers.now c.loop-dart.dart _ _ _ _
      (sym c.is_in.ensures ∙ w.if-is_in.false) (ap (λ v. v.items) w.faces-is) (ap (λ v. v.items) w.darts-is) c.loop-dart.invariant
]
