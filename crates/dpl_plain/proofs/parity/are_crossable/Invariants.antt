use Rattle.std.proofs.Common.{◌≡◌, ℕ, ◌<◌, true}
use Rattle.dpl_sign.specs.Drawings.{is_in}
use Rattle.dpl_sign.specs.Parity.{is_crossable}
use Rattle.dpl_plain.proofs.parity.are_crossable.Given as goal

abbrev pub invariant-loop-edge : goal.invariant-loop-edge
invariant-loop-edge l = (e : ℕ) → e < l.edge → is_in l.chosen e ≡ true → is_crossable l.net (is_in l.set) e ≡ true
