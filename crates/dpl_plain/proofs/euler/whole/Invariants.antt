use Rattle.std.proofs.Common.{◌≡◌, ℕ, ◌<◌, true, length}
use Rattle.dpl_sign.specs.Drawings.{is_in}
use Rattle.dpl_plain.proofs.euler.whole.Given as goal

abbrev pub invariant-loop-edge : goal.invariant-loop-edge
invariant-loop-edge l = (length l.set.items ≡ l._edge) × ((e : ℕ) → e < l._edge → is_in l.set.items e ≡ true)
