-- Changes of values, one set after another.
use Rattle.std.proofs.Common.{arith, ◌≡◌, ℕ, zero, suc, ◌<◌, ◌≤◌, ap, ◌∙◌, inl, inr}
use Rattle.std.proofs.lemmas.Bool.{cases_eq}
use Rattle.dpl_laminar.specs.Loads.{sum_below}
use Rattle.dpl_laminar.specs.Families.{Sets}

pub values_kept : (f g h : Sets) → g ≡ record f { value = g.value } → h ≡ record g { value = h.value } → h ≡ record f { value = h.value }
values_kept f g h e d = d ∙ ap (λ (z : Sets). record z { value = h.value }) e

-- one place of a sum is at most the sum
pub sum_part : (n : ℕ) (f : ℕ → ℕ) (a : ℕ) → a < n → f a ≤ sum_below n f
sum_part zero f a h = absurd (omega arith)
sum_part (suc n) f a h = elim (cases_eq a n) [
  | inl e ↦ omega (arith, ap f e)
  | inr ne ↦ omega (arith, sum_part n f a (omega arith))
]
