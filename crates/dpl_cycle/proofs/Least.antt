-- The least number of a cycle.
use Rattle.std.proofs.Common.{arith, ◌≡◌, ◌≢◌, ℕ, zero, suc, ◌<◌, ◌≤◌, sym, ap, ◌∙◌, inl, inr}
use Rattle.std.proofs.lemmas.Bool.{cases_eq}
use Rattle.dpl_cycle.specs.Cycles.{without, least, Permutes}
use Rattle.dpl_cycle.proofs.Steps.{without_hit, without_miss, least_alone, least_top, least_under}
use Rattle.dpl_cycle.proofs.Shorter.{shorter}

pub least_step : (n : ℕ) (f g : ℕ → ℕ) → Permutes n f g → (x : ℕ) → x < n → least f n (f x) ≡ least f n x
least_step zero f g p x h = absurd (omega arith)
least_step (suc n) f g p x h =
    let more = λ (y : ℕ) (k : y < n). least_step n (without n f) (without n g) (shorter n f g p) y k in
    elim (cases_eq x n) [
      | inl t ↦ elim (cases_eq (f n) n) [
        | inl q ↦ ap (least f (suc n)) (ap f t ∙ q ∙ sym t)
        | inr q ↦ ap (λ y. least f (suc n) (f y)) t ∙ least_under f n (f n) q ∙ sym (ap (least f (suc n)) t ∙ least_top f n q)
      ]
      | inr t ↦
          let below : x < n = omega arith in
          elim (cases_eq (f x) n) [
            | inl q ↦
                let ne : f n ≢ n = λ k. omega (arith, sym (p.back n (omega arith)) ∙ ap g (k ∙ sym q) ∙ p.back x h) in
                ap (least f (suc n)) q ∙ least_top f n ne ∙ ap (least (without n f) n) (sym (without_hit n f x q)) ∙ more x below ∙ sym (least_under f n x t)
            | inr q ↦ least_under f n (f x) q ∙ ap (least (without n f) n) (sym (without_miss n f x q)) ∙ more x below ∙ sym (least_under f n x t)
          ]
    ]

pub least_le : (n : ℕ) (f g : ℕ → ℕ) → Permutes n f g → (x : ℕ) → x < n → least f n x ≤ x
least_le zero f g p x h = absurd (omega arith)
least_le (suc n) f g p x h =
    let more = λ (y : ℕ) (k : y < n). least_le n (without n f) (without n g) (shorter n f g p) y k in
    elim (cases_eq x n) [
      | inl t ↦ elim (cases_eq (f n) n) [
        | inl q ↦ omega (arith, ap (least f (suc n)) t ∙ least_alone f n q)
        | inr q ↦
            let lt : f n < n = omega (arith, p.to n (omega arith)) in
            omega (arith, ap (least f (suc n)) t ∙ least_top f n q, more (f n) lt)
      ]
      | inr t ↦ omega (arith, least_under f n x t, more x (omega arith))
    ]

-- what is constant along f is constant on each cycle
pub label_least : (n : ℕ) (f g : ℕ → ℕ) → Permutes n f g → (label : ℕ → ℕ)
    → ((x : ℕ) → x < n → label (f x) ≡ label x) → (x : ℕ) → x < n → label (least f n x) ≡ label x
label_least zero f g p label e x h = absurd (omega arith)
label_least (suc n) f g p label e x h =
    let q = shorter n f g p in
    let along : (y : ℕ) → y < n → label (without n f y) ≡ label y = λ y k. elim (cases_eq (f y) n) [
      | inl t ↦ ap label (without_hit n f y t) ∙ e n (omega arith) ∙ ap label (sym t) ∙ e y (omega arith)
      | inr t ↦ ap label (without_miss n f y t) ∙ e y (omega arith)
    ] in
    let more = λ (y : ℕ) (k : y < n). label_least n (without n f) (without n g) q label along y k in
    elim (cases_eq x n) [
      | inl t ↦ elim (cases_eq (f n) n) [
        | inl s ↦ ap (λ z. label (least f (suc n) z)) t ∙ ap label (least_alone f n s) ∙ ap label (sym t)
        | inr s ↦
            let lt : f n < n = omega (arith, p.to n (omega arith)) in
            ap (λ z. label (least f (suc n) z)) t ∙ ap label (least_top f n s) ∙ more (f n) lt ∙ e n (omega arith) ∙ ap label (sym t)
      ]
      | inr t ↦ ap label (least_under f n x t) ∙ more x (omega arith)
    ]
