use Rattle.std.proofs.Common.{arith, refl, sym, ap, ◌∙◌, ◌<◌, ◌*◌, length, List}
use Rattle.std.proofs.lemmas.Bool.{and_parts}
use Rattle.dpl_map.specs.Views.{view_of}
use Rattle.dpl_map.proofs.ViewLemmas.{dart_of}
use Rattle.dpl_dual.proofs.DualLemmas.{parity_yes, parity_no}
use Rattle.dpl_dual.proofs.parity.pass.Goals as goal
use Rattle.dpl_dual.proofs.parity.pass.Goals.{then-is_clash, else-is_clash}

pub face_of-face-requires-clause-dart : goal.face_of-face-requires-clause-dart
face_of-face-requires-clause-dart c = dart_of c.args.graph.now c.args.map.now c.requires.map c.loop-dart.dart
    (omega (arith, c.loop-dart-test.true, ap (λ (z : List _). length z) c.as_slice.ensures))

pub loop-dart-preserved : goal.loop-dart-preserved
loop-dart-preserved c =
    let g = c.args.graph.now in
    let dart : c.loop-dart.dart < 2 * length g.edges = omega (arith, c.loop-dart-test.true, ap (λ (z : List _). length z) c.as_slice.ensures) in
    elim c.if-is_clash.branch [
      | then-is_clash w ↦
          let kept = (and_parts _ _ (sym c.is_clash.ensures ∙ w.if-is_clash.true)).0 in
          parity_yes g (view_of c.args.map.now) _ _ _ _ _ (omega (arith, c.loop-dart.auto.odd, c.requires.faces))
          (sym c.is_clash.ensures ∙ w.if-is_clash.true) w.face_of-face.ensures.value
          (omega (arith, w.face_of-face.ensures.value, c.requires.map.inside c.loop-dart.dart dart kept)) refl
          w.odd-is c.loop-dart.invariant
      | else-is_clash w ↦ parity_no g (view_of c.args.map.now) _ _ _ (sym c.is_clash.ensures ∙ w.if-is_clash.false) w.odd-is c.loop-dart.invariant
    ]
