-- Sums over the numbers below n that pass a test.
use Rattle.std.proofs.Common.{arith, ◌≡◌, ◌+◌, ◌<◌, ◌⊎◌, inl, inr, ℕ, zero, suc, Bool, true, false, cond, refl, ap, ◌∙◌}
use Rattle.std.proofs.lemmas.Bool.{cases_lt}
use Rattle.dpl_cycle.specs.Sums.{sum_on}

-- what a number adds
abbrev pub share : (ℕ → Bool) → (ℕ → ℕ) → ℕ → ℕ
share p w v = cond {A = ℕ} (p v) (w v) 0

-- two tests of which each number passes as many as it passes of a third
pub sum_split : (n : ℕ) (p a b : ℕ → Bool) (w : ℕ → ℕ)
    → ((v : ℕ) → v < n → share p w v ≡ share a w v + share b w v) → sum_on p w n ≡ sum_on a w n + sum_on b w n
sum_split zero p a b w e = refl
sum_split (suc n) p a b w e = omega (arith, e n (omega arith), sum_split n p a b w (λ v l. e v (omega arith)))

-- a number that passes a test, if there is one
pub some_passes : (n : ℕ) (p : ℕ → Bool) → ((u : ℕ) × (u < n) × (p u ≡ true)) ⊎ ((v : ℕ) → v < n → p v ≡ false)
some_passes zero p = inr (λ v l. absurd (omega arith))
some_passes (suc n) p = elim (p n) as (λ b. p n ≡ b → ((u : ℕ) × (u < suc n) × (p u ≡ true)) ⊎ ((v : ℕ) → v < suc n → p v ≡ false)) [
  | true ↦ λ e. inl (n, omega arith, e)
  | false ↦ λ e. elim (some_passes n p) [
    | inl (u, l, f) ↦ inl (u, omega arith, f)
    | inr none ↦ inr (λ v l. last v l e none)
  ]
] refl where
  last : (v : ℕ) → v < suc n → p n ≡ false → ((v : ℕ) → v < n → p v ≡ false) → p v ≡ false
  last v l e none = elim (cases_lt v n) [
    | inl m ↦ none v m
    | inr m ↦ let f : v ≡ n = omega arith in ap p f ∙ e
  ]
