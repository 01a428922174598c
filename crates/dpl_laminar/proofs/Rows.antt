-- Rows of members: ascending lists.
use Rattle.std.proofs.Common.{arith, ◌≡◌, ◌≢◌, ℕ, zero, suc, ◌+◌, ◌<◌, ◌≤◌, ◌++◌, refl, sym, ap, ◌∙◌, subst, Bool, true, false}
use Rattle.std.proofs.Common.{cond, inl, inr, eqb, eq-eqb, ◌||◌, List, [], ◌∷◌, take, length, get_or, nat_cmp}
use Rattle.std.proofs.Common.{Result, Ok, Err, MatchResult}
use Rattle.std.specs.List.{list_any, dedup, dedup_from}
use Rattle.std.specs.List.Sorted.{IsStrictlyIncreasing, IsBinarySearchResult}
use Rattle.std.specs.Result.{is_ok}
use Rattle.std.proofs.lemmas.Bool.{cases_eq, cases_lt, cases_Bool, cond-true, cond-false, ne_eqb}
use Rattle.std.proofs.lemmas.List.{append-nil, take_all, take_more}
use Rattle.std.proofs.lemmas.List.Sorted.{searched}
use Rattle.dpl_laminar.specs.Families.{members_below, has}
use Rattle.dpl_laminar.specs.Storing.{IsRow, IsNameOf, row_holds}
use Rattle.dpl_laminar.proofs.Numbers.{has_head, has_tail, has_at, place_in, true_false}

-- ---- lists without a number twice in a row

deduped : (k m : ℕ) (xs : List ℕ) → has (dedup_from eqb k xs) m ≡ has (k ∷ xs) m
deduped k m [] = refl
deduped k m (x ∷ xs) = elim (cases_eq x k) [
  | inl e ↦
      ap (λ z. has z m) (cond-true (eqb x k) (dedup_from eqb k xs) (k ∷ dedup_from eqb x xs) (eq-eqb x k e)) ∙ deduped k m xs ∙
      elim (cases_eq k m) [
        | inl h ↦ has_head k m xs h ∙ sym (has_head k m (x ∷ xs) h)
        | inr ne ↦ has_tail k m xs ne ∙ sym (has_tail x m xs (λ z. ne (sym e ∙ z))) ∙ sym (has_tail k m (x ∷ xs) ne)
      ]
  | inr ne ↦
      ap (λ z. has z m) (cond-false (eqb x k) (dedup_from eqb k xs) (k ∷ dedup_from eqb x xs) (ne_eqb x k ne)) ∙
      ap (λ z. eqb k m || z) (deduped x m xs)
]

-- a list has the same numbers where each stands once
pub has_deduped : (xs : List ℕ) (m : ℕ) → has (dedup eqb xs) m ≡ has xs m
has_deduped [] m = refl
has_deduped (x ∷ xs) m = deduped x m xs

-- ---- ascending lists

pub rising_far : (xs : List ℕ) → IsStrictlyIncreasing xs → (i j : ℕ) → i < j → j < length xs → get_or xs i 0 < get_or xs j 0
rising_far xs p i zero h l = absurd (omega arith)
rising_far xs p i (suc j) h l =
    let step : get_or xs j 0 < get_or xs (suc j) 0 =
    subst (λ z. get_or xs j 0 < get_or xs z 0) (let z : j + 1 ≡ suc j = omega arith in z) (p j (omega arith)) in
    elim (cases_eq i j) [
      | inl e ↦ omega (arith, step, ap (λ z. get_or xs z 0) e)
      | inr ne ↦ omega (arith, step, rising_far xs p i j (omega arith) (omega arith))
    ]

pub none_row : (n : ℕ) → IsRow n []
none_row n = record { rising = λ k h. absurd (omega arith); below = λ i h. absurd (omega arith) }

pub single_row : (n m : ℕ) → m < n → IsRow n (m ∷ [])
single_row n m h = record {
  rising = λ k l. absurd (omega arith);
  below = λ i l. elim (cases_eq i 0) [
    | inl e ↦ omega (arith, h, ap (λ z. get_or (m ∷ []) z 0) e)
    | inr ne ↦ absurd (omega arith)
  ];
}

pub has_single : (i m : ℕ) → has (i ∷ []) m ≡ eqb i m
has_single i m = elim (cases_eq i m) [
  | inl e ↦ has_head i m [] e ∙ sym (eq-eqb i m e)
  | inr ne ↦ has_tail i m [] ne ∙ sym (ne_eqb i m ne)
]

-- what a row has is below the bound
pub held_below : (n m : ℕ) (row : List ℕ) → IsRow n row → has row m ≡ true → m < n
held_below n m row r h = let v = place_in row m h in omega (arith, r.below v.0 v.1, v.2)

listed : (n j : ℕ) (row : List ℕ) → IsStrictlyIncreasing row → j ≤ length row
    → ((i : ℕ) → i < j → get_or row i 0 < n) → ((i : ℕ) → j ≤ i → i < length row → n ≤ get_or row i 0)
    → members_below n (has row) ≡ take j row
listed zero zero row p most below above = refl
listed zero (suc j) row p most below above = absurd (omega (arith, below 0 (omega arith)))
listed (suc n) j row p most below above = elim (cases_Bool (has row n)) [
  | inl t ↦
      let v = place_in row n t in
      let i : ℕ = v.0 in
      let before : i < j = elim (cases_lt i j) [
        | inl z ↦ z
        | inr le ↦ absurd (omega (arith, above i le v.1, v.2))
      ] in
      let last : j ≡ i + 1 = elim (cases_lt (i + 1) j) [
        | inl more ↦ absurd (omega (arith, below (i + 1) more, rising_far row p i (i + 1) (omega arith) (omega arith), v.2))
        | inr le ↦ omega (arith, le, before)
      ] in
      let front : members_below n (has row) ≡ take i row = listed n i row p (omega (arith, v.1))
      (λ k h. omega (arith, rising_far row p k i h v.1, v.2))
      (λ k h l. elim (cases_eq k i) [
        | inl e ↦ omega (arith, ap (λ z. get_or row z 0) e, v.2)
        | inr ne ↦ omega (arith, rising_far row p i k (omega arith) l, v.2)
      ]) in
      ap (λ z. z ++ cond (has row n) (n ∷ []) []) front ∙ ap (λ z. take i row ++ z) (cond-true (has row n) (n ∷ []) [] t) ∙
      ap (λ z. take i row ++ z ∷ []) (sym v.2) ∙ sym (take_more row i 0 v.1) ∙ ap (λ z. take z row) (sym last)
  | inr f ↦
      let other : (i : ℕ) → i < length row → get_or row i 0 ≢ n =
      λ i l e. true_false (has row n) (ap (has row) (sym e) ∙ has_at row i l) f in
      let front : members_below n (has row) ≡ take j row = listed n j row p most
      (λ i h. let z : get_or row i 0 ≢ n = other i (omega arith) in omega (arith, below i h))
      (λ i h l. omega (arith, above i h l)) in
      ap (λ z. z ++ cond (has row n) (n ∷ []) []) front ∙ ap (λ z. take j row ++ z) (cond-false (has row n) (n ∷ []) [] f) ∙ append-nil (take j row)
]

-- a row is the list of the members that it has
pub row_listed : (n : ℕ) (row : List ℕ) → IsRow n row → row ≡ members_below n (has row)
row_listed n row r = sym (listed n (length row) row r.rising (omega arith) r.below (λ i h l. absurd (omega arith)) ∙ take_all (length row) row (omega arith))

-- what a search in an ascending list finds
pub is_found : (xs : List ℕ) (x : ℕ) (r : Result ℕ ℕ) → IsStrictlyIncreasing xs → IsBinarySearchResult (λ y. nat_cmp y x) xs r → is_ok r ≡ has xs x
is_found xs x r p s = found r (searched xs x r s (λ i j h l. elim (cases_eq i j) [
  | inl e ↦ omega (arith, ap (λ z. get_or xs z 0) e)
  | inr ne ↦ omega (arith, rising_far xs p i j (omega arith) l)
]))
  where
    found : (r : Result ℕ ℕ) → MatchResult r (λ i. (i < length xs) × (get_or xs i 0 ≡ x))
        (λ i. (i ≤ length xs) × ((k : ℕ) → k < i → get_or xs k 0 < x) × ((k : ℕ) → i ≤ k → k < length xs → x < get_or xs k 0)) → is_ok r ≡ has xs x
    found (Ok i) v = sym (ap (has xs) (sym v.1) ∙ has_at xs i v.0)
    found (Err i) v = elim (cases_Bool (has xs x)) [
      | inl t ↦ (let w = place_in xs x t in elim (cases_lt w.0 i) [
        | inl lt ↦ absurd (omega (arith, v.1 w.0 lt, w.2))
        | inr le ↦ absurd (omega (arith, v.2 w.0 le w.1, w.2))
      ])
      | inr f ↦ sym f
    ]

-- ---- the members of several sets

any_in : (p : ℕ → Bool) (cs : List ℕ) → list_any p cs ≡ true → (c : ℕ) × (p c ≡ true)
any_in p [] h = let no : false ≡ true = h in cc
any_in p (c ∷ cs) h = elim (cases_Bool (p c)) [
  | inl t ↦ (c, t)
  | inr f ↦ any_in p cs (sym (ap (λ z. z || list_any p cs) f) ∙ h)
]

-- what several rows have together is a row
pub union_row : (n : ℕ) (rows : List (List ℕ)) (sets row : List ℕ) → ((i : ℕ) → IsRow n (get_or rows i []))
    → IsStrictlyIncreasing row → ((m : ℕ) → has row m ≡ list_any (λ c. has (get_or rows c []) m) sets) → IsRow n row
union_row n rows sets row each rising same = record {
  rising = rising;
  below = λ i h.
      let m : ℕ = get_or row i 0 in
      let c = any_in (λ c. has (get_or rows c []) m) sets (sym (same m) ∙ has_at row i h) in
      held_below n m (get_or rows c.0 []) (each c.0) c.1;
}

-- ---- numbers of new sets

pub some_held : (row : List ℕ) (m : ℕ) → has row m ≡ true → 0 < length row
some_held row m h = let v = place_in row m h in omega (arith, v.1)

pub named : (n : ℕ) (rows : List (List ℕ)) (x y : ℕ) → IsRow n (get_or rows x []) → 0 < length (get_or rows x [])
    → 0 < length (get_or rows y []) → get_or (get_or rows y []) 0 0 < get_or (get_or rows x []) 0 0
    → IsNameOf n (row_holds rows) (get_or (get_or rows x []) 0 0) x y
named n rows x y r some other less =
    let row = get_or rows x [] in
    record {
      below = r.below 0 some;
      held = has_at row 0 some;
      least = λ m h. elim (cases_Bool (has row m)) [
        | inl t ↦ (let v = place_in row m t in elim (cases_eq v.0 0) [
          | inl e ↦ absurd (omega (arith, v.2, ap (λ z. get_or row z 0) e))
          | inr ne ↦ absurd (omega (arith, v.2, rising_far row r.rising 0 v.0 (omega arith) v.1))
        ])
        | inr f ↦ f
      ];
      less = (get_or (get_or rows y []) 0 0, less, has_at (get_or rows y []) 0 other);
    }

-- the first of a row is a name of it, where the first of another one is less
pub first_name : (n : ℕ) (rows : List (List ℕ)) (x y a b : ℕ) → ((i : ℕ) → IsRow n (get_or rows i []))
    → (m : ℕ) × (m < n) × (has (get_or rows x []) m ≡ true) → (m : ℕ) × (m < n) × (has (get_or rows y []) m ≡ true)
    → a ≡ get_or (get_or rows x []) 0 0 → b ≡ get_or (get_or rows y []) 0 0 → b < a → IsNameOf n (row_holds rows) a x y
first_name n rows x y a b each px py ea eb less = subst (λ z. IsNameOf n (row_holds rows) z x y) (sym ea)
    (named n rows x y (each x) (some_held _ px.0 px.2) (some_held _ py.0 py.2) (omega (arith, ea, eb)))

pub firsts_differ : (n : ℕ) (rows : List (List ℕ)) (x y a b : ℕ) → ((i : ℕ) → IsRow n (get_or rows i []))
    → (m : ℕ) × (m < n) × (has (get_or rows x []) m ≡ true) → (m : ℕ) × (m < n) × (has (get_or rows y []) m ≡ true)
    → ((m : ℕ) → m < n → has (get_or rows x []) m ≡ true → has (get_or rows y []) m ≡ false)
    → a ≡ get_or (get_or rows x []) 0 0 → b ≡ get_or (get_or rows y []) 0 0 → a ≢ b
firsts_differ n rows x y a b each px py apart ea eb e =
    let row = get_or rows x [] in
    let other = get_or rows y [] in
    let some : 0 < length row = some_held _ px.0 px.2 in
    let held : has row a ≡ true = ap (has row) ea ∙ has_at row 0 some in
    let below : a < n = omega (arith, (each x).below 0 some, ea) in
    true_false (has other a) (ap (has other) (e ∙ eb) ∙ has_at other 0 (some_held _ py.0 py.2)) (apart a below held)
