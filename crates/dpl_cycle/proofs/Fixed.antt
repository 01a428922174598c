-- A number that leads to itself is alone on its cycle.
use Rattle.std.proofs.Common.{arith, ◌≡◌, ◌≢◌, ℕ, zero, suc, ◌<◌, ◌==◌, refl, sym, ap, ◌∙◌, true, false, inl, inr, eq-eqb}
use Rattle.std.proofs.lemmas.Bool.{ne_eqb, cases_eq}
use Rattle.dpl_cycle.specs.Cycles.{without, least, Permutes}
use Rattle.dpl_cycle.proofs.Steps.{without_miss, least_alone, least_under}
use Rattle.dpl_cycle.proofs.Least.{label_least}

pub least_fixed : (n : ℕ) (f : ℕ → ℕ) (d : ℕ) → f d ≡ d → least f n d ≡ d
least_fixed zero f d h = refl
least_fixed (suc n) f d h = elim (cases_eq d n) [
  | inl e ↦ ap (least f (suc n)) e ∙ least_alone f n (ap f (sym e) ∙ h ∙ e) ∙ sym e
  | inr e ↦ least_under f n d e ∙ least_fixed n (without n f) d (without_miss n f d (λ k. e (sym h ∙ k)) ∙ h)
]

pub mark : ℕ → ℕ → ℕ
mark d z = elim (z == d) [ true ↦ 1 | false ↦ 0 ]

pub mark_here : (d z : ℕ) → z ≡ d → mark d z ≡ 1
unfolding mark
mark_here d z e = rw (eq-eqb z d e, mark)

pub mark_elsewhere : (d z : ℕ) → z ≢ d → mark d z ≡ 0
unfolding mark
mark_elsewhere d z e = rw (ne_eqb z d e, mark)

pub fixed_apart : (n : ℕ) (f g : ℕ → ℕ) → Permutes n f g → (d z : ℕ) → d < n → z < n → f d ≡ d → z ≢ d → least f n z ≢ least f n d
fixed_apart n f g p d z hd hz fd ne e =
    let along : (x : ℕ) → x < n → mark d (f x) ≡ mark d x = λ x h. elim (cases_eq x d) [
      | inl t ↦ mark_here d (f x) (ap f t ∙ fd) ∙ sym (mark_here d x t)
      | inr t ↦ mark_elsewhere d (f x) (λ k. t (sym (p.back x h) ∙ ap g (k ∙ sym fd) ∙ p.back d hd)) ∙ sym (mark_elsewhere d x t)
    ] in
    omega (
      arith,
      sym (label_least n f g p (mark d) along z hz) ∙ ap (mark d) e ∙
          label_least n f g p (mark d) along d hd,
      mark_here d d refl,
      mark_elsewhere d z ne,
    )
