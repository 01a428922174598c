-- The first edge that is set aside.
use Rattle.std.proofs.Common.{arith, ◌≡◌, ◌↔◌, ℕ, zero, suc, ◌<◌, refl, sym, ap, ◌∙◌, true, false, not, inl, inr, List, [], ◌∷◌}
use Rattle.std.proofs.Common.{◌++◌, length, get_or, length-append, subst}
use Rattle.std.proofs.lemmas.Bool.{cases_eq, cases_order, cases_Bool, both_ways, cond-true, cond-false}
use Rattle.std.proofs.lemmas.List.{get_or_append_left, get_or-append-add}
use Rattle.dpl_sign.specs.declared.nets.Net.{Net}
use Rattle.dpl_sign.specs.Excess.{is_aside, aside_before, aside_edges}
use Rattle.dpl_map.specs.Maps.{is_kept}
use Rattle.dpl_euler.specs.Bars.{IsFirstAside}

none_before : (net : Net) (n : ℕ) → length (aside_before net n) ≡ 0 → (x : ℕ) → x < n → is_kept net x ≡ true
none_before net zero h x l = absurd (omega (arith, l))
none_before net (suc n) h x l = elim (cases_Bool (is_kept net n)) [
  | inl t ↦ elim (cases_eq x n) [
    | inl e ↦ ap (is_kept net) e ∙ t
    | inr e ↦ none_before net n (ap length (sym (cond-false (is_aside net n) _ _ (ap not t))) ∙ h) x (omega (arith, l, e))
  ]
  | inr t ↦
      let more : aside_before net (suc n) ≡ aside_before net n ++ n ∷ [] = cond-true (is_aside net n) _ _ (ap not t) in
      absurd (omega (arith, ap length more, h, length-append (aside_before net n) (n ∷ [])))
]

-- what the first of the edges set aside below n is
record IsFirst (net : Net) (n e : ℕ) : Type 0 where
  pub inside : e < n
  pub aside : is_kept net e ≡ false
  pub least : (x : ℕ) → x < e → is_kept net x ≡ true

first_at : (net : Net) (n e e' : ℕ) → e ≡ e' → IsFirst net n e → IsFirst net n e'
first_at net n e e' q f =
    let P : ℕ → Type 0 = λ z. IsFirst net n z in
    subst P q f

later : (net : Net) (n e : ℕ) → IsFirst net n e → IsFirst net (suc n) e
later net n e f = record { inside = omega (arith, f.inside); aside = f.aside; least = f.least }

first_before : (net : Net) (n : ℕ) → 0 < length (aside_before net n) → IsFirst net n (get_or (aside_before net n) 0 0)
first_before net zero h = absurd (omega (arith, h))
first_before net (suc n) h =
    let old = aside_before net n in
    elim (cases_Bool (is_kept net n)) [
      | inl t ↦
          let same : aside_before net (suc n) ≡ old = cond-false (is_aside net n) _ _ (ap not t) in
          first_at net (suc n) _ _ (ap (λ (xs : List ℕ). get_or xs 0 0) (sym same)) (later net n _ (first_before net n (omega (arith, h, ap length same))))
      | inr t ↦
          let more : aside_before net (suc n) ≡ old ++ n ∷ [] = cond-true (is_aside net n) _ _ (ap not t) in
          elim (cases_eq (length old) 0) [
            | inl none ↦
                let at : get_or (aside_before net (suc n)) 0 0 ≡ n = ap (λ (xs : List ℕ). get_or xs 0 0) more ∙
                ap (λ z. get_or (old ++ n ∷ []) z 0) (omega (arith, none)) ∙ get_or-append-add old (n ∷ []) 0 0 in
                first_at net (suc n) _ _ (sym at) (record { inside = omega arith; aside = t; least = none_before net n none })
            | inr some ↦
                let at : get_or (aside_before net (suc n)) 0 0 ≡ get_or old 0 0 =
                ap (λ (xs : List ℕ). get_or xs 0 0) more ∙ get_or_append_left old (n ∷ []) 0 0 (omega (arith, some))
                in
                first_at net (suc n) _ _ (sym at) (later net n _ (first_before net n (omega (arith, some))))
          ]
    ]

pub first_aside : (net : Net) → 0 < length (aside_edges net) → IsFirstAside net (get_or (aside_edges net) 0 0)
first_aside net h =
    let f = first_before net (length net.graph.edges) h in
    record { inside = f.inside; aside = f.aside; least = f.least }

-- ---- the first of the list

head_of : (xs : List ℕ) → 0 < length xs → (others : List ℕ) × (xs ≡ get_or xs 0 0 ∷ others)
head_of [] l = absurd (omega (arith, l))
head_of (x ∷ xs) l = (xs, refl)

one_first : (net : Net) (d e : ℕ) → IsFirstAside net d → IsFirstAside net e → d ≡ e
one_first net d e p q = elim (cases_order d e) [
  | inl same ↦ same
  | inr s ↦ elim s [
    | inl l ↦ absurd (both_ways _ p.aside (q.least d l))
    | inr l ↦ absurd (both_ways _ q.aside (p.least e l))
  ]
]

pub listed_first : (net : Net) (e : ℕ) → IsFirstAside net e ↔ ((others : List ℕ) × (aside_edges net ≡ e ∷ others))
listed_first net e = (
  λ p.
      let some : 0 < length (aside_edges net) = elim (cases_eq (length (aside_edges net)) 0) [
        | inl none ↦ absurd (both_ways _ p.aside (none_before net (length net.graph.edges) none e p.inside))
        | inr some ↦ omega (arith, some)
      ] in
      let (others, is) = head_of (aside_edges net) some in
      (others, is ∙ ap (λ x. x ∷ others) (one_first net _ e (first_aside net some) p)),
  λ (others, is).
      let P : ℕ → Type 0 = λ z. IsFirstAside net z in
      subst P (ap (λ (xs : List ℕ). get_or xs 0 0) is) (first_aside net (omega (arith, ap length is))),
)
