use Rattle.std.proofs.Common.{◌≡◌, ℕ, ◌<◌, length, get_or}
use Rattle.dpl_sign.specs.Drawings.{is_in as in_set, next_in_face}
use Rattle.dpl_plain.proofs.faces.successors.Given as goal

abbrev pub invariant-loop-dart : goal.invariant-loop-dart
invariant-loop-dart l = (length l.nexts.items ≡ l.dart) × ((k : ℕ) → k < l.dart → get_or l.nexts.items k 0 ≡ next_in_face l.net (in_set l.set) k)
