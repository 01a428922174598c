-- Cycles that go through some of the numbers.
use Rattle.std.proofs.Common.{arith, ◌≡◌, ◌≢◌, ℕ, zero, suc, ◌+◌, ◌<◌, refl, sym, ap, ◌∙◌, Bool, true, false, inl, inr, List, ◌∷◌, eq-eqb}
use Rattle.std.proofs.lemmas.Bool.{ne_eqb, cases_eq, cases_Bool}
use Rattle.dpl_cycle.specs.Cycles.{without, cycles, Permutes}
use Rattle.dpl_cycle.specs.Among.{cycles_among, members, others_count}
use Rattle.dpl_cycle.proofs.Steps.{without_miss, cycles_alone, cycles_more}
use Rattle.dpl_cycle.proofs.Shorter.{shorter, without_same}

pub among_alone : (f : ℕ → ℕ) (d : ℕ) (ds : List ℕ) → f d ≡ d → cycles_among f (d ∷ ds) ≡ suc (cycles_among (without d f) ds)
among_alone f d ds h = rw (eq-eqb (f d) d h, cycles_among)

pub among_more : (f : ℕ → ℕ) (d : ℕ) (ds : List ℕ) → f d ≢ d → cycles_among f (d ∷ ds) ≡ cycles_among (without d f) ds
among_more f d ds h = rw (ne_eqb (f d) d h, cycles_among)

pub members_in : (p : ℕ → Bool) (n : ℕ) → p n ≡ true → members p (suc n) ≡ n ∷ members p n
members_in p n h = rw (h, members)

pub members_out : (p : ℕ → Bool) (n : ℕ) → p n ≡ false → members p (suc n) ≡ members p n
members_out p n h = rw (h, members)

pub others_in : (p : ℕ → Bool) (n : ℕ) → p n ≡ true → others_count p (suc n) ≡ others_count p n
others_in p n h = rw (h, others_count)

pub others_out : (p : ℕ → Bool) (n : ℕ) → p n ≡ false → others_count p (suc n) ≡ suc (others_count p n)
others_out p n h = rw (h, others_count)

pub among_same : (n : ℕ) (p : ℕ → Bool) (f f' : ℕ → ℕ) → ((x : ℕ) → x < n → f x ≡ f' x) → cycles_among f (members p n) ≡ cycles_among f' (members p n)
among_same zero p f f' e = refl
among_same (suc n) p f f' e =
    let en : f n ≡ f' n = e n (omega arith) in
    elim (cases_Bool (p n)) [
      | inl q ↦
          let more : cycles_among (without n f) (members p n) ≡ cycles_among (without n f') (members p n) = among_same n p _ _ (without_same n f f' e) in
          rw (members_in p n q) (elim (cases_eq (f n) n) [
            | inl a ↦ among_alone f n (members p n) a ∙ ap suc more ∙ sym (among_alone f' n (members p n) (sym en ∙ a))
            | inr a ↦ among_more f n (members p n) a ∙ more ∙ sym (among_more f' n (members p n) (λ k. a (en ∙ k)))
          ])
      | inr q ↦ rw (members_out p n q) (among_same n p f f' (λ x h. e x (omega arith)))
    ]

-- where each other number leads to itself, the cycles are those through the members and one for each other
pub cycles_members : (n : ℕ) (p : ℕ → Bool) (f g : ℕ → ℕ) → Permutes n f g
    → ((x : ℕ) → x < n → p x ≡ false → f x ≡ x) → cycles f n ≡ cycles_among f (members p n) + others_count p n
cycles_members zero p f g q fixed = refl
cycles_members (suc n) p f g q fixed =
    let still : (x : ℕ) → x < n → p x ≡ false → without n f x ≡ x = λ x h o.
    let fx : f x ≡ x = fixed x (omega arith) o in
    without_miss n f x (λ k. omega arith) ∙ fx in
    let more : cycles (without n f) n ≡ cycles_among (without n f) (members p n) + others_count p n = cycles_members n p _ _ (shorter n f g q) still in
    elim (cases_Bool (p n)) [
      | inl t ↦ elim (cases_eq (f n) n) [
        | inl a ↦ omega (arith, more, cycles_alone f n a, ap (cycles_among f) (members_in p n t) ∙ among_alone f n (members p n) a, others_in p n t)
        | inr a ↦ omega (arith, more, cycles_more f n a, ap (cycles_among f) (members_in p n t) ∙ among_more f n (members p n) a, others_in p n t)
      ]
      | inr t ↦
          let alone : f n ≡ n = fixed n (omega arith) t in
          let same : cycles_among f (members p n) ≡ cycles_among (without n f) (members p n) = among_same n p f (without n f) (λ x h.
          sym (without_miss n f x (λ k. omega (arith, sym (q.back x (omega arith)) ∙ ap g (k ∙ sym alone) ∙ q.back n (omega arith))))) in
          omega (arith, more, same, cycles_alone f n alone, ap (cycles_among f) (members_out p n t), others_out p n t)
    ]

pub members_same : (n : ℕ) (p q : ℕ → Bool) → ((d : ℕ) → d < n → p d ≡ q d) → members p n ≡ members q n
members_same zero p q e = refl
members_same (suc n) p q e =
    let rest : members p n ≡ members q n = members_same n p q (λ d h. e d (omega arith)) in
    elim (cases_Bool (p n)) [
      | inl t ↦ members_in p n t ∙ ap (λ ds. n ∷ ds) rest ∙ sym (members_in q n (sym (e n (omega arith)) ∙ t))
      | inr t ↦ members_out p n t ∙ rest ∙ sym (members_out q n (sym (e n (omega arith)) ∙ t))
    ]
