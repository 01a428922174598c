-- Two ways to name the same classes count them alike.
use Rattle.std.proofs.Common.{arith, ◌≡◌, ◌≢◌, ℕ, zero, suc, ◌<◌, ◌==◌, refl, sym, ap, ◌∙◌, true, cond, inl, inr, eq-eqb}
use Rattle.std.proofs.lemmas.Bool.{ne_eqb, cases_eq, cond-true, cond-false}
use Rattle.dpl_cycle.specs.Cycles.{Permutes}
use Rattle.dpl_cycle.specs.Sums.{sum_on}
use Rattle.dpl_cycle.specs.Names.{AreNames, name_count}
use Rattle.dpl_cycle.proofs.SumLemmas.{sum_moved, sum_same}
use Rattle.dpl_cycle.proofs.NameLemmas.{count_in, count_out}

-- 1 at a number that names itself
own : (ℕ → ℕ) → ℕ → ℕ
own s x = cond (s x == x) 1 0

own_yes : (s : ℕ → ℕ) (x : ℕ) → s x ≡ x → own s x ≡ 1
unfolding own
own_yes s x h = cond-true {A = ℕ} (s x == x) 1 0 (eq-eqb (s x) x h)

own_no : (s : ℕ → ℕ) (x : ℕ) → s x ≢ x → own s x ≡ 0
unfolding own
own_no s x h = cond-false {A = ℕ} (s x == x) 1 0 (ne_eqb (s x) x h)

own_sum : (s : ℕ → ℕ) (n : ℕ) → name_count s n ≡ sum_on (λ x. true) (own s) n
own_sum s zero = refl
own_sum s (suc n) = elim (cases_eq (s n) n) [
  | inl q ↦ omega (arith, count_in s n q, own_sum s n, own_yes s n q)
  | inr q ↦ omega (arith, count_out s n q, own_sum s n, own_no s n q)
]

-- exchanges the names that s and t give to one class
switch : (ℕ → ℕ) → (ℕ → ℕ) → ℕ → ℕ
switch s t x = cond (s x == x) (t x) (cond (t x == x) (s x) x)

switch_own : (s t : ℕ → ℕ) (x : ℕ) → s x ≡ x → switch s t x ≡ t x
unfolding switch
switch_own s t x h = cond-true (s x == x) _ _ (eq-eqb (s x) x h)

switch_other : (s t : ℕ → ℕ) (x : ℕ) → s x ≢ x → t x ≡ x → switch s t x ≡ s x
unfolding switch
switch_other s t x h k = cond-false (s x == x) (t x) _ (ne_eqb (s x) x h) ∙ cond-true (t x == x) _ x (eq-eqb (t x) x k)

switch_none : (s t : ℕ → ℕ) (x : ℕ) → s x ≢ x → t x ≢ x → switch s t x ≡ x
unfolding switch
switch_none s t x h k = cond-false (s x == x) (t x) _ (ne_eqb (s x) x h) ∙ cond-false (t x == x) (s x) x (ne_eqb (t x) x k)

-- s and t name the same classes
pub record AreAlike (n : ℕ) (s t : ℕ → ℕ) : Type 0 where
  pub first : AreNames n s
  pub second : AreNames n t
  pub here : (v : ℕ) → v < n → s (t v) ≡ s v
  pub there : (v : ℕ) → v < n → t (s v) ≡ t v

switch_inside : (n : ℕ) (s t : ℕ → ℕ) → AreAlike n s t → (x : ℕ) → x < n → switch s t x < n
switch_inside n s t p x h = elim (cases_eq (s x) x) [
  | inl a ↦ omega (arith, switch_own s t x a, p.second.inside x h)
  | inr a ↦ elim (cases_eq (t x) x) [ inl b ↦ omega (arith, switch_other s t x a b, p.first.inside x h) | inr b ↦ omega (arith, switch_none s t x a b, h) ]
]

switch_twice : (n : ℕ) (s t : ℕ → ℕ) → AreAlike n s t → (x : ℕ) → x < n → switch s t (switch s t x) ≡ x
switch_twice n s t p x h = elim (cases_eq (s x) x) [
  | inl a ↦
      let y = t x in
      let sy : s y ≡ x = p.here x h ∙ a in
      let ty : t y ≡ y = p.second.twice x h in
      ap (switch s t) (switch_own s t x a) ∙ (elim (cases_eq (s y) y) [
        | inl b ↦ switch_own s t y b ∙ ty ∙ sym b ∙ sy
        | inr b ↦ switch_other s t y b ty ∙ sy
      ])
  | inr a ↦ elim (cases_eq (t x) x) [
    | inl b ↦ ap (switch s t) (switch_other s t x a b) ∙ switch_own s t (s x) (p.first.twice x h) ∙ p.there x h ∙ b
    | inr b ↦ ap (switch s t) (switch_none s t x a b) ∙ switch_none s t x a b
  ]
]

own_switched : (n : ℕ) (s t : ℕ → ℕ) → AreAlike n s t → (x : ℕ) → x < n → own t (switch s t x) ≡ own s x
own_switched n s t p x h = elim (cases_eq (s x) x) [
  | inl a ↦ ap (own t) (switch_own s t x a) ∙ own_yes t (t x) (p.second.twice x h) ∙ sym (own_yes s x a)
  | inr a ↦ elim (cases_eq (t x) x) [
    | inl b ↦ ap (own t) (switch_other s t x a b) ∙ own_no t (s x) (λ k. a (sym k ∙ p.there x h ∙ b)) ∙ sym (own_no s x a)
    | inr b ↦ ap (own t) (switch_none s t x a b) ∙ own_no t x b ∙ sym (own_no s x a)
  ]
]

pub count_alike : (n : ℕ) (s t : ℕ → ℕ) → AreAlike n s t → name_count s n ≡ name_count t n
count_alike n s t p =
    let f = switch s t in
    let moves : Permutes n f f = record {
      to = switch_inside n s t p;
      from = switch_inside n s t p;
      back =
          switch_twice n s t p;
      forth = switch_twice n s t p;
    } in
    own_sum s n ∙ sym (sum_same n (λ x. true) (λ x. true) _ _ (λ x h. refl) (λ x h. own_switched n s t p x h)) ∙
    sum_moved n f f moves (λ x. true) (λ x h. refl) (own t) ∙ sym (own_sum t n)
