-- A permutation without its greatest number, and permutations that agree.
use Rattle.std.proofs.Common.{arith, ◌≡◌, ◌≢◌, ℕ, zero, suc, ◌<◌, refl, sym, ap, ◌∙◌, inl, inr}
use Rattle.std.proofs.lemmas.Bool.{cases_eq}
use Rattle.dpl_cycle.specs.Cycles.{without, cycles, least, Permutes}
use Rattle.dpl_cycle.proofs.Steps.{without_hit, without_miss, cycles_alone, cycles_more, least_alone, least_top, least_under}

pub turned : (n : ℕ) (f g : ℕ → ℕ) → Permutes n f g → Permutes n g f
turned n f g p = record { to = p.from; from = p.to; back = p.forth; forth = p.back }

pub shorter_step : (n : ℕ) (f g : ℕ → ℕ) → Permutes (suc n) f g → (x : ℕ) → x < n → (without n f x < n) × (without n g (without n f x) ≡ x)
shorter_step n f g p x h = elim (cases_eq (f x) n) [
  | inl e ↦
      let gn : g n ≡ x = sym (ap g e) ∙ p.back x (omega arith) in
      let b : g (f n) ≡ n = p.back n (omega arith) in
      let w : without n f x ≡ f n = without_hit n f x e in
      let ne : f n ≢ n = λ q. omega (arith, sym b ∙ ap g q ∙ gn) in
      let lt : f n < n = omega (arith, p.to n (omega arith)) in
      (rw w lt, rw w (without_hit n g (f n) b ∙ gn))
  | inr e ↦
      let w : without n f x ≡ f x = without_miss n f x e in
      let b : g (f x) ≡ x = p.back x (omega arith) in
      let lt : f x < n = omega (arith, p.to x (omega arith)) in
      let ne : g (f x) ≢ n = λ q. omega arith in
      (rw w lt, rw w (without_miss n g (f x) ne ∙ b))
]

pub shorter : (n : ℕ) (f g : ℕ → ℕ) → Permutes (suc n) f g → Permutes n (without n f) (without n g)
shorter n f g p = record {
  to = λ x h. (shorter_step n f g p x h).0;
  from = λ x h. (shorter_step n g f (turned (suc n) f g p) x h).0;
  back = λ x h. (shorter_step n f g p x h).1;
  forth = λ x h. (shorter_step n g f (turned (suc n) f g p) x h).1;
}

pub without_same : (n : ℕ) (f f' : ℕ → ℕ) → ((x : ℕ) → x < suc n → f x ≡ f' x) → (x : ℕ) → x < n → without n f x ≡ without n f' x
without_same n f f' e x h =
    let ex : f x ≡ f' x = e x (omega arith) in
    let en : f n ≡ f' n = e n (omega arith) in
    elim (cases_eq (f x) n) [
      | inl q ↦ without_hit n f x q ∙ en ∙ sym (without_hit n f' x (sym ex ∙ q))
      | inr q ↦ without_miss n f x q ∙ ex ∙ sym (without_miss n f' x (λ k. q (ex ∙ k)))
    ]

pub cycles_same : (n : ℕ) (f f' : ℕ → ℕ) → ((x : ℕ) → x < n → f x ≡ f' x) → cycles f n ≡ cycles f' n
cycles_same zero f f' e = refl
cycles_same (suc n) f f' e =
    let en : f n ≡ f' n = e n (omega arith) in
    let more : cycles (without n f) n ≡ cycles (without n f') n = cycles_same n (without n f) (without n f') (without_same n f f' e) in
    elim (cases_eq (f n) n) [
      | inl q ↦ cycles_alone f n q ∙ ap suc more ∙ sym (cycles_alone f' n (sym en ∙ q))
      | inr q ↦ cycles_more f n q ∙ more ∙ sym (cycles_more f' n (λ k. q (en ∙ k)))
    ]

pub least_same : (n : ℕ) (f f' : ℕ → ℕ) → ((x : ℕ) → x < n → f x ≡ f' x) → (x : ℕ) → least f n x ≡ least f' n x
least_same zero f f' e x = refl
least_same (suc n) f f' e x =
    let en : f n ≡ f' n = e n (omega arith) in
    let more = λ (y : ℕ). least_same n (without n f) (without n f') (without_same n f f' e) y in
    elim (cases_eq x n) [
      | inl t ↦ elim (cases_eq (f n) n) [
        | inl q ↦ rw (ap (least f (suc n)) t) (least_alone f n q ∙ sym (ap (least f' (suc n)) t ∙ least_alone f' n (sym en ∙ q)))
        | inr q ↦ ap (least f (suc n)) t ∙ least_top f n q ∙ more (f n) ∙ ap (least (without n f') n) en ∙
            sym (ap (least f' (suc n)) t ∙ least_top f' n (λ k. q (en ∙ k)))
      ]
      | inr t ↦ least_under f n x t ∙ more x ∙ sym (least_under f' n x t)
    ]
