use Rattle.std.proofs.Common.{◌≡◌, ℕ, ◌<◌, length}
use Rattle.dpl_sign.specs.Drawings.{is_in}
use Rattle.dpl_sign.specs.Parity.{is_clash_edge}
use Rattle.dpl_plain.proofs.parity.clashes.Given as goal

abbrev pub invariant-loop-edge : goal.invariant-loop-edge
invariant-loop-edge l = (length l.test.items ≡ l.edge) × ((e : ℕ) → e < l.edge → is_in l.test.items e ≡ is_clash_edge l.net e)
