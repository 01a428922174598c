-- Facts of natural numbers: the test whether two differ, with the fact that it tells, and squares in order.
use Rattle.std.proofs.Common.{◌≡◌, ◌≢◌, ℕ, ◌==◌, ◌*◌, ◌≤◌, true, not, arith}
use Rattle.std.proofs.lemmas.Bool.Decides.{nat_tests}

pub differ_test : (a b : ℕ) → a ≢ b → not (a == b) ≡ true
differ_test a b n = grind (arith, nat_tests)

pub they_differ : (a b : ℕ) → not (a == b) ≡ true → a ≢ b
they_differ a b t e = grind (arith, nat_tests)

pub square_le : (a b : ℕ) → a ≤ b → a * a ≤ b * b
square_le a b h = grind arith
