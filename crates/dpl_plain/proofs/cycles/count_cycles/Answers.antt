use Rattle.std.proofs.Common.{arith, rules, sym, ◌∙◌, ◌≡◌, length}
use Rattle.std.proofs.lemmas.Bool.{eqb-true, eqb-false}
use Rattle.dpl_plain.proofs.PlainLemmas.{count_alone, count_more, count_out}
use Rattle.dpl_plain.proofs.cycles.count_cycles.Goals.{else-is_in-via-then-is_in+else-take_last, else-is_in-via-else-is_in}
use Rattle.dpl_plain.proofs.cycles.count_cycles.Goals as goal

pub loop-dart-preserved-then-take_last : goal.loop-dart-preserved-then-take_last
loop-dart-preserved-then-take_last c =
    let same : length c.take_last.new.nexts ≡ length c.loop-dart.nexts = search rules in
    count_alone _ c.loop-dart.nexts _ _ c.loop-dart.count c.loop-dart.dart c.loop-dart.invariant (omega arith) same c.take_last.ensures.without
    (sym c.is_in.ensures ∙ c.if-is_in.true) (eqb-true _ _ (sym c.take_last.ensures.alone ∙ c.if-take_last.true))

pub loop-dart-preserved : goal.loop-dart-preserved
loop-dart-preserved c = elim c.else-is_in.branch [
  | else-is_in-via-then-is_in+else-take_last w ↦
      let same : length w.take_last.new.nexts ≡ length c.loop-dart.nexts = search rules in
      rw w.nexts-is (count_more _ c.loop-dart.nexts _ _ c.loop-dart.count c.loop-dart.dart c.loop-dart.invariant (omega arith) same w.take_last.ensures.without
      (sym c.is_in.ensures ∙ w.if-is_in.true) (eqb-false _ _ (sym w.take_last.ensures.alone ∙ w.if-take_last.false)))
  | else-is_in-via-else-is_in w ↦ rw w.nexts-is (count_out _ c.loop-dart.nexts _ c.loop-dart.count c.loop-dart.dart
      c.loop-dart.invariant (omega arith) (sym c.is_in.ensures ∙ w.if-is_in.false))
]
