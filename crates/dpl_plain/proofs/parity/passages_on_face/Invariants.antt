use Rattle.std.proofs.Common.{◌≡◌, ◌≤◌, ◌==◌, ◌&&◌, ◌/◌}
use Rattle.dpl_cycle.specs.Sums.{count_on}
use Rattle.dpl_sign.specs.Drawings.{is_in, face_of}
use Rattle.dpl_plain.proofs.parity.passages_on_face.Given as goal

abbrev pub invariant-loop-dart : goal.invariant-loop-dart
invariant-loop-dart l = (l.count ≡ count_on (λ d. is_in l.set (d / 2) && (face_of l.net (is_in l.set) d == l.face) &&
    is_in l.test (d / 2)) l.dart) × (l.count ≤ l.dart)
