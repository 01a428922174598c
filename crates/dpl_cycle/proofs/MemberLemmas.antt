-- The numbers below n that pass a test, as a list.
use Rattle.std.proofs.Common.{arith, ◌≡◌, ◌≢◌, ℕ, zero, suc, ◌+◌, ◌<◌, refl, sym, ap, ◌∙◌, Bool, true, false, inl, inr, List, ◌∷◌, subst}
use Rattle.std.proofs.lemmas.Bool.{cases_Bool, cases_eq, cond-true, cond-false}
use Rattle.dpl_cycle.specs.Among.{members, others_count}
use Rattle.dpl_cycle.specs.Sums.{count_on}
use Rattle.dpl_cycle.proofs.AmongLemmas.{members_in, members_out, others_in, others_out}
use Rattle.dpl_cycle.proofs.Turns.{Mem}

mem_at : (x : ℕ) (ds es : List ℕ) → ds ≡ es → Mem x es → Mem x ds
mem_at x ds es e h = let P : List ℕ → Type 0 = λ l. Mem x l in subst P (sym e) h

mem_from : (x : ℕ) (ds es : List ℕ) → ds ≡ es → Mem x ds → Mem x es
mem_from x ds es e h = let P : List ℕ → Type 0 = λ l. Mem x l in subst P e h

pub member_from : (p : ℕ → Bool) (n x : ℕ) → x < n → p x ≡ true → Mem x (members p n)
member_from p zero x h t = absurd (omega arith)
member_from p (suc n) x h t = elim (cases_eq x n) [
  | inl e ↦ mem_at x (members p (suc n)) (n ∷ members p n) (members_in p n (ap p (sym e) ∙ t)) (inl e)
  | inr e ↦ elim (cases_Bool (p n)) [
    | inl q ↦ mem_at x (members p (suc n)) (n ∷ members p n) (members_in p n q) (inr (member_from p n x (omega arith) t))
    | inr q ↦ mem_at x (members p (suc n)) (members p n) (members_out p n q) (member_from p n x (omega arith) t)
  ]
]

pub member_is : (p : ℕ → Bool) (n x : ℕ) → Mem x (members p n) → (x < n) × (p x ≡ true)
member_is p zero x h = absurd h
member_is p (suc n) x h = elim (cases_Bool (p n)) [
  | inl q ↦ elim (mem_from x (members p (suc n)) (n ∷ members p n) (members_in p n q) h) [
    | inl e ↦ (omega (arith, e), ap p e ∙ q)
    | inr k ↦
        let rest = member_is p n x k in
        (omega (arith, rest.0), rest.1)
  ]
  | inr q ↦
      let rest = member_is p n x (mem_from x (members p (suc n)) (members p n) (members_out p n q) h) in
      (omega (arith, rest.0), rest.1)
]

pub others_same : (n : ℕ) (p q : ℕ → Bool) → ((x : ℕ) → x < n → p x ≡ q x) → others_count p n ≡ others_count q n
others_same zero p q e = refl
others_same (suc n) p q e =
    let rest : others_count p n ≡ others_count q n = others_same n p q (λ x h. e x (omega arith)) in
    elim (cases_Bool (p n)) [
      | inl t ↦ others_in p n t ∙ rest ∙ sym (others_in q n (sym (e n (omega arith)) ∙ t))
      | inr t ↦ others_out p n t ∙ ap suc rest ∙ sym (others_out q n (sym (e n (omega arith)) ∙ t))
    ]

-- one number more passes the test
pub others_less : (n : ℕ) (p q : ℕ → Bool) (m : ℕ) → m < n → p m ≡ false → q m ≡ true
    → ((x : ℕ) → x < n → x ≢ m → p x ≡ q x) → others_count q n + 1 ≡ others_count p n
others_less zero p q m h pm qm e = absurd (omega arith)
others_less (suc n) p q m h pm qm e = elim (cases_eq n m) [
  | inl t ↦
      let rest : others_count p n ≡ others_count q n = others_same n p q (λ x k. e x (omega arith) (λ r. omega arith)) in
      omega (arith, rest, others_out p n (ap p t ∙ pm), others_in q n (ap q t ∙ qm))
  | inr t ↦
      let rest : others_count q n + 1 ≡ others_count p n = others_less n p q m (omega arith) pm qm (λ x k r. e x (omega arith) r) in
      elim (cases_Bool (p n)) [
        | inl b ↦ omega (arith, rest, others_in p n b, others_in q n (sym (e n (omega arith) t) ∙ b))
        | inr b ↦ omega (arith, rest, others_out p n b, others_out q n (sym (e n (omega arith) t) ∙ b))
      ]
]

pub count_others : (p : ℕ → Bool) (n : ℕ) → count_on p n + others_count p n ≡ n
count_others p zero = refl
count_others p (suc n) = elim (cases_Bool (p n)) [
  | inl t ↦ omega (arith, count_others p n, others_in p n t, cond-true {A = ℕ} (p n) 1 0 t)
  | inr t ↦ omega (arith, count_others p n, others_out p n t, cond-false {A = ℕ} (p n) 1 0 t)
]

pub count_more : (n : ℕ) (p q : ℕ → Bool) (m : ℕ) → m < n → p m ≡ false → q m ≡ true → ((x : ℕ) → x < n → x ≢ m → p x ≡ q x) → count_on q n ≡ count_on p n + 1
count_more n p q m h pm qm e = omega (arith, others_less n p q m h pm qm e, count_others p n, count_others q n)
