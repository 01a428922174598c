-- Beyond a set all its members have the same way out.
use Rattle.std.proofs.Common.{arith, ◌≡◌, ℕ, ◌+◌, ◌*◌, ◌<◌, ◌&&◌, refl, sym, ap, ◌∙◌}
use Rattle.std.proofs.Common.{Bool, true, false, cond, inl, inr}
use Rattle.std.proofs.lemmas.Bool.{cases_eq, cases_Bool, true≢false}
use Rattle.dpl_laminar.specs.Families.{Sets, IsFamily}
use Rattle.dpl_laminar.proofs.Sums.{sum_same, sum_added}
use Rattle.dpl_pack.specs.Nests.{inner_of, comes_before}
use Rattle.dpl_pack.specs.Points.{total_at}
use Rattle.dpl_pack.proofs.NestLemmas.{before_either, before_within}

-- what one set adds to both ways
beyond_term : (f : Sets) → IsFamily f → (k t u j : ℕ) → k < 2 * f.size → t < f.size → u < f.size → j < 2 * f.size
    → f.holds k t ≡ true → f.holds k u ≡ true
    → cond (f.holds j u) (f.value j) 0 + cond (comes_before f j k && f.holds j t) (f.value j) 0
    ≡ cond (f.holds j t) (f.value j) 0 + cond (comes_before f j k && f.holds j u) (f.value j) 0
beyond_term f p k t u j hk ht hu hj kt ku = elim (cases_Bool (comes_before f j k)) [
  | inl b ↦ inside (comes_before f j k) (f.holds j t) (f.holds j u) (f.value j) b
  | inr b ↦
      let over : (x y : ℕ) → x < f.size → y < f.size → f.holds k x ≡ true → f.holds k y ≡ true → f.holds j x ≡ true → f.holds j y ≡ true =
      λ x y hx hy kx ky jx. elim (cases_eq j k) [
        | inl e ↦ ap (λ z. f.holds z y) e ∙ ky
        | inr ne ↦ elim (before_either f j k ne) [
          | inl c ↦ absurd (true≢false (sym c ∙ b))
          | inr c ↦ before_within f p k j x hk hj hx kx jx c y hy ky
        ]
      ] in
      outside (comes_before f j k) (f.holds j t) (f.holds j u) (f.value j) b (over t u ht hu kt ku) (over u t hu ht ku kt)
]
  where
    inside : (b x y : Bool) (v : ℕ) → b ≡ true → cond y v 0 + cond (b && x) v 0 ≡ cond x v 0 + cond (b && y) v 0
    inside true true true v e = omega arith
    inside true true false v e = omega arith
    inside true false true v e = omega arith
    inside true false false v e = omega arith
    inside false x y v e = absurd (true≢false (sym e))

    outside : (b x y : Bool) (v : ℕ) → b ≡ false → (x ≡ true → y ≡ true) → (y ≡ true → x ≡ true) →
        cond y v 0 + cond (b && x) v 0 ≡ cond x v 0 + cond (b && y) v 0
    outside true x y v e a c = absurd (true≢false e)
    outside false true true v e a c = omega arith
    outside false false false v e a c = omega arith
    outside false true false v e a c = absurd (true≢false (sym (a refl)))
    outside false false true v e a c = absurd (true≢false (sym (c refl)))

-- two members of a set have the same way beyond it
pub totals_beyond : (f : Sets) → IsFamily f → (k t u : ℕ) → k < 2 * f.size → t < f.size → u < f.size
    → f.holds k t ≡ true → f.holds k u ≡ true → total_at f u + inner_of f k t ≡ total_at f t + inner_of f k u
totals_beyond f p k t u hk ht hu kt ku =
    let ct : ℕ → ℕ = λ j. cond (f.holds j t) (f.value j) 0 in
    let cu : ℕ → ℕ = λ j. cond (f.holds j u) (f.value j) 0 in
    let it : ℕ → ℕ = λ j. cond (comes_before f j k && f.holds j t) (f.value j) 0 in
    let iu : ℕ → ℕ = λ j. cond (comes_before f j k && f.holds j u) (f.value j) 0 in
    omega (
      arith,
      sum_added (2 * f.size) cu it,
      sum_added (2 * f.size) ct iu,
      sum_same (2 * f.size) (λ j. cu j + it j) (λ j. ct j + iu j) (λ j hj. beyond_term f p k t u j hk ht hu hj kt ku),
    )
