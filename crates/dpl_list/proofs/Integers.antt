-- Facts of integers that are searched for, and the test of one against another with the fact that it tells.
use Rattle.std.proofs.Common.{◌≡◌, ◌≢◌, ◌⊎◌, inl, inr, ℤ, ◌<ℤ◌, ◌≤ℤ◌, true, false, int_lt, int_le, arith}
use Rattle.std.proofs.lemmas.Int.{ints, clamps, by_lt_z}

pub ruleset signed = (arith, ints, clamps)

pub less_test : (a b : ℤ) → a <ℤ b → int_lt a b ≡ true
less_test a b h = grind (arith, ints)

pub is_less : (a b : ℤ) → int_lt a b ≡ true → a <ℤ b
is_less a b e = grind (arith, ints)

pub no_less_test : (a b : ℤ) → b ≤ℤ a → int_lt a b ≡ false
no_less_test a b h = grind (arith, ints)

pub not_less : (a b : ℤ) → int_lt a b ≡ false → b ≤ℤ a
not_less a b e = grind (arith, ints)

pub not_at_most : (a b : ℤ) → int_le a b ≡ false → b <ℤ a
not_at_most a b e = grind (arith, ints)

-- a test that one is at most another tells that it is
pub is_at_most : (a b : ℤ) → int_le a b ≡ true → a ≤ℤ b
is_at_most a b e = grind (arith, ints)

-- and what is at most another passes that test
pub at_most_test : (a b : ℤ) → a ≤ℤ b → int_le a b ≡ true
at_most_test a b h = grind (arith, ints)

-- two are the same or they differ
pub same_or_not : (a b : ℤ) → (a ≡ b) ⊎ (a ≢ b)
same_or_not a b = by_lt_z a b (λ l. inr (λ e. omega (arith, ints, l, e)))
    (λ l. by_lt_z b a (λ m. inr (λ e. omega (arith, ints, m, e))) (λ m. inl (omega (arith, ints, l, m))))
