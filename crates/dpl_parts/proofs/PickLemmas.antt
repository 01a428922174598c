-- Numbers that pass a test, in order.
use Rattle.std.proofs.Common.{arith, ◌≡◌, ℕ, zero, suc, ◌<◌, ◌≤◌, inl, inr, Bool, true, false, List, [], ◌∷◌, ◌++◌}
use Rattle.std.proofs.Common.{length, refl, sym, ap, subst, ◌∙◌, slice_index_or, length-append}
use Rattle.std.proofs.lemmas.Bool.{cases_lt, cases_eq, cases_Bool}
use Rattle.dpl_parts.specs.Picks.{picked_below, place_in}

push_at : (xs : List ℕ) (x : ℕ) → slice_index_or (xs ++ x ∷ []) (length xs) 0 ≡ x
push_at [] x = refl
push_at (y ∷ xs) x = push_at xs x

push_front : (xs : List ℕ) (x i : ℕ) → i < length xs → slice_index_or (xs ++ x ∷ []) i 0 ≡ slice_index_or xs i 0
push_front [] x i l = absurd (omega (arith, l))
push_front (y ∷ xs) x zero l = refl
push_front (y ∷ xs) x (suc i) l = push_front xs x i (omega (arith, l))

module _ (test : ℕ → Bool) where
  pub take_true : (k : ℕ) → test k ≡ true → picked_below test (suc k) ≡ picked_below test k ++ k ∷ []
  take_true k t = rw t refl

  pub take_false : (k : ℕ) → test k ≡ false → picked_below test (suc k) ≡ picked_below test k
  take_false k t = rw t refl

  pub picked_few : (k : ℕ) → length (picked_below test k) ≤ k
  picked_few zero = omega arith
  picked_few (suc k) =
      let f = picked_few k in
      elim (cases_Bool (test k)) [
        | inl t ↦ let e = ap length (take_true k t) in let a = length-append (picked_below test k) (k ∷ []) in omega (arith, e, a, f)
        | inr t ↦ let e = ap length (take_false k t) in omega (arith, e, f)
      ]

  -- what a picked number is
  pub picked_is : (k i : ℕ) → i < length (picked_below test k) → (slice_index_or (picked_below test k) i 0 < k) ×
      (test (slice_index_or (picked_below test k) i 0) ≡ true)
  picked_is zero i l = absurd (omega (arith, l))
  picked_is (suc k) i l = elim (cases_Bool (test k)) [
    | inl t ↦
        let e = take_true k t in
        let n = ap length e in
        let a = length-append (picked_below test k) (k ∷ []) in
        let P : List ℕ → Type 0 = λ xs. (slice_index_or xs i 0 < suc k) × (test (slice_index_or xs i 0) ≡ true) in
        subst P (sym e) (elim (cases_lt i (length (picked_below test k))) [
          | inl low ↦
              let f = push_front (picked_below test k) k i low in
              let (b, t') = picked_is k i low in
              (omega (arith, f, b), ap test f ∙ t')
          | inr not ↦
              let s : i ≡ length (picked_below test k) = omega (arith, not, l, n, a) in
              let f : slice_index_or (picked_below test k ++ k ∷ []) i 0 ≡ k =
              ap (λ j. slice_index_or (picked_below test k ++ k ∷ []) j 0) s ∙ push_at (picked_below test k) k in
              (omega (arith, f), ap test f ∙ t)
        ])
    | inr t ↦
        let e = take_false k t in
        let P : List ℕ → Type 0 = λ xs. (slice_index_or xs i 0 < suc k) × (test (slice_index_or xs i 0) ≡ true) in
        let n = ap length e in
        let (b, t') = picked_is k i (omega (arith, n, l)) in
        subst P (sym e) (omega (arith, b), t')
  ]

  -- a number that passes is picked, at its place
  pub picked_at : (k v : ℕ) → v < k → test v ≡ true → (place_in test v < length (picked_below test k)) ×
      (slice_index_or (picked_below test k) (place_in test v) 0 ≡ v)
  picked_at zero v l t = absurd (omega (arith, l))
  picked_at (suc k) v l t = elim (cases_eq v k) [
    | inl same ↦
        let tk : test k ≡ true = ap test (sym same) ∙ t in
        let e = take_true k tk in
        let P : ℕ → Type 0 = λ w. (place_in test w < length (picked_below test (suc k))) ×
        (slice_index_or (picked_below test (suc k)) (place_in test w) 0 ≡ w) in
        let Q : List ℕ → Type 0 = λ xs. (length (picked_below test k) < length xs) × (slice_index_or xs (length (picked_below test k)) 0 ≡ k) in
        let a = length-append (picked_below test k) (k ∷ []) in
        subst P (sym same) (subst Q (sym e) (omega (arith, a), push_at (picked_below test k) k))
    | inr other ↦
        let (low, is) = picked_at k v (omega (arith, l, other)) t in
        elim (cases_Bool (test k)) [
          | inl tk ↦
              let e = take_true k tk in
              let Q : List ℕ → Type 0 = λ xs. (place_in test v < length xs) × (slice_index_or xs (place_in test v) 0 ≡ v) in
              let a = length-append (picked_below test k) (k ∷ []) in
              subst Q (sym e) (omega (arith, a, low), push_front (picked_below test k) k (place_in test v) low ∙ is)
          | inr tk ↦
              let e = take_false k tk in
              let Q : List ℕ → Type 0 = λ xs. (place_in test v < length xs) × (slice_index_or xs (place_in test v) 0 ≡ v) in
              subst Q (sym e) (low, is)
        ]
  ]

  -- places rise with the numbers that pass
  pub places_rise : (v w : ℕ) → v < w → test v ≡ true → place_in test v < place_in test w
  places_rise v w l t = (picked_at w v l t).0

  -- picked numbers rise
  pub picked_rise : (k i j : ℕ) → i < j → j < length (picked_below test k) → slice_index_or (picked_below test k) i 0 < slice_index_or (picked_below test k) j 0
  picked_rise zero i j l m = absurd (omega (arith, m))
  picked_rise (suc k) i j l m = elim (cases_Bool (test k)) [
    | inl t ↦
        let e = take_true k t in
        let n = ap length e in
        let a = length-append (picked_below test k) (k ∷ []) in
        let P : List ℕ → Type 0 = λ xs. slice_index_or xs i 0 < slice_index_or xs j 0 in
        subst P (sym e) (elim (cases_lt j (length (picked_below test k))) [
          | inl low ↦
              let f = push_front (picked_below test k) k i (omega (arith, l, low)) in
              let g = push_front (picked_below test k) k j low in
              let r = picked_rise k i j l low in
              omega (arith, f, g, r)
          | inr not ↦
              let s : j ≡ length (picked_below test k) = omega (arith, not, m, n, a) in
              let g : slice_index_or (picked_below test k ++ k ∷ []) j 0 ≡ k =
              ap (λ z. slice_index_or (picked_below test k ++ k ∷ []) z 0) s ∙ push_at (picked_below test k) k in
              let low : i < length (picked_below test k) = omega (arith, l, s) in
              let f = push_front (picked_below test k) k i low in
              let (b, t') = picked_is k i low in
              omega (arith, f, g, b)
        ])
    | inr t ↦
        let e = take_false k t in
        let n = ap length e in
        let P : List ℕ → Type 0 = λ xs. slice_index_or xs i 0 < slice_index_or xs j 0 in
        subst P (sym e) (picked_rise k i j l (omega (arith, n, m)))
  ]
