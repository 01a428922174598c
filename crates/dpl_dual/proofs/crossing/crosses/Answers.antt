use Rattle.std.proofs.Common.{arith, ap, sym, ◌∙◌, ◌+◌, ◌*◌, refl, length, Vec, List}
use Rattle.dpl_map.specs.Views.{view_of}
use Rattle.dpl_map.proofs.ViewLemmas.{dart_of}
use Rattle.dpl_dual.proofs.CrossLemmas.{crosses_push, crosses_no}
use Rattle.dpl_dual.proofs.crossing.crosses.Goals as goal
use Rattle.dpl_dual.proofs.crossing.crosses.Goals.{then-crossable+in_ok-push, else-crossable}

pub face_of-requires-clause-dart : goal.face_of-requires-clause-dart
face_of-requires-clause-dart c = dart_of c.args.graph.now c.args.map.now c.requires (2 * c.loop-i.i)
    (omega (arith, c.loop-i-test.true, ap (λ (z : List _). length z) c.as_slice-edges.ensures))

pub face_of-requires-then-crossable-clause-dart : goal.face_of-requires-then-crossable-clause-dart
face_of-requires-then-crossable-clause-dart c = dart_of c.args.graph.now c.args.map.now c.requires (2 * c.loop-i.i + 1)
    (omega (arith, c.loop-i-test.true, ap (λ (z : List _). length z) c.as_slice-edges.ensures))

pub loop-i-preserved : goal.loop-i-preserved
loop-i-preserved c = elim c.if-crossable.branch [
  | then-crossable+in_ok-push w ↦
      crosses_push c.args.graph.now (view_of c.args.map.now) _ _ _ _ _ _ _ _ c.loop-i.invariant
      (ap (λ (z : Vec _ _). z.items) w.found-is ∙ w.in_ok-push.ensures.items) c.as_slice-edges.ensures
      c.loop-i-test.true c.index-edges-i.is (sym c.crossable.ensures ∙ w.if-crossable.true) w.face_of.ensures.value
      w.face_of-then-crossable.ensures.value refl
  | else-crossable w ↦ ap (λ (z : Vec _ _). z.items) w.found-is ∙ c.loop-i.invariant ∙
      sym (crosses_no c.args.graph.now (view_of c.args.map.now) _ (sym c.crossable.ensures ∙ w.if-crossable.false))
]
