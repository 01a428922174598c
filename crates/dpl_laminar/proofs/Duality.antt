-- Weak duality: the values of odd sets bound every pairing from below.
use Rattle.std.proofs.Common.{arith, ◌≡◌, ◌≢◌, ℕ, zero, suc, ◌+◌, ◌*◌, ◌%◌, ◌<◌, ◌≤◌, refl, sym, ap, ◌∙◌, Bool, true, false, cond, inl, inr, ltb, eqb, eq-eqb}
use Rattle.std.proofs.lemmas.Bool.{cases_eq, cases_lt, cases_Bool, cond-true, cond-false, lt-ltb, le-ltb, ne_eqb}
use Rattle.dpl_laminar.specs.Loads.{sum_below, differ, load_in, size_of}
use Rattle.dpl_laminar.specs.Pairings.{IsPairing, pairs_sum, ValuesBoundPairings, FamiliesBoundPairings}
use Rattle.dpl_laminar.proofs.Sums.{sum_same, sum_most, sum_zero, sum_added, sum_times, sum_at, sum_turned, sum_parity}

-- how many pairs have exactly one member in the set
abbrev pub leaving : ℕ → (ℕ → ℕ) → (ℕ → Bool) → ℕ
leaving n mate set = pairs_sum n mate (λ s t. cond (differ (set s) (set t)) 1 0)

-- ---- a sum over the mates of all members

same_mate : (n : ℕ) (mate : ℕ → ℕ) → IsPairing n mate → (m j : ℕ) → m < n → j < n → eqb (mate m) j ≡ eqb (mate j) m
same_mate n mate p m j hm hj = elim (cases_eq (mate m) j) [
  | inl e ↦ eq-eqb (mate m) j e ∙ sym (eq-eqb (mate j) m (ap mate (sym e) ∙ p.back m hm))
  | inr ne ↦ ne_eqb (mate m) j ne ∙ sym (ne_eqb (mate j) m (λ e. ne (ap mate (sym e) ∙ p.back j hj)))
]

-- each member is the mate of one member
sum_mates : (n : ℕ) (mate : ℕ → ℕ) → IsPairing n mate → (w : ℕ → ℕ) → sum_below n (λ m. w (mate m)) ≡ sum_below n w
sum_mates n mate p w =
    sum_same n _ _ (λ m h. sym (sum_at n (mate m) w (p.range m h))) ∙
    sum_turned n n (λ m j. cond (eqb (mate m) j) (w j) 0) ∙
    sum_same n _ _ (λ j h. sum_same n _ _ (λ m l. ap (λ z. cond z (w j) 0) (same_mate n mate p m j l h)) ∙ sum_at n (mate j) (λ _. w j) (p.range j h))

-- ---- how many pairs leave a set

one_of_two : (m m' : ℕ) (x : ℕ) → m' ≢ m → x ≡ cond (ltb m m') x 0 + cond (ltb m' m) x 0
one_of_two m m' x ne = elim (cases_lt m m') [
  | inl lt ↦ omega (arith, cond-true (ltb m m') x 0 (lt-ltb m m' lt), cond-false (ltb m' m) x 0 (le-ltb m' m (omega arith)))
  | inr le ↦ omega (arith, cond-false (ltb m m') x 0 (le-ltb m m' le), cond-true (ltb m' m) x 0 (lt-ltb m' m (omega arith)))
]

cond_added : (t : Bool) (x y : ℕ) → cond t (x + y) 0 ≡ cond t x 0 + cond t y 0
cond_added true x y = refl
cond_added false x y = refl

one_value : (d : Bool) (x : ℕ) → cond d x 0 ≡ cond d 1 0 * x
one_value true x = omega arith
one_value false x = omega arith

sum_times_none : (k : ℕ) (value : ℕ → ℕ) → sum_below k (λ i. 0 * value i) ≡ 0
sum_times_none k value = sum_same k _ _ (λ i h. omega arith) ∙ sum_zero k

at_least_once : (l x : ℕ) → 0 < l → x ≤ l * x
at_least_once zero x h = absurd (omega arith)
at_least_once (suc l) x h = omega arith

-- each pair counts at its first member
pub sum_by_pairs : (n : ℕ) (mate : ℕ → ℕ) → IsPairing n mate → (w : ℕ → ℕ) → sum_below n w ≡ pairs_sum n mate (λ s t. w s + w t)
sum_by_pairs n mate p w =
    let split : sum_below n w ≡ sum_below n (λ m. cond (ltb m (mate m)) (w m) 0 + cond (ltb (mate m) m) (w m) 0) =
    sum_same n _ _ (λ m h. one_of_two m (mate m) (w m) (p.apart m h)) in
    let parted = sum_added n (λ m. cond (ltb m (mate m)) (w m) 0) (λ m. cond (ltb (mate m) m) (w m) 0) in
    let moved : sum_below n (λ m. cond (ltb (mate (mate m)) (mate m)) (w (mate m)) 0) ≡ sum_below n (λ m. cond (ltb (mate m) m) (w m) 0) =
    sum_mates n mate p (λ m. cond (ltb (mate m) m) (w m) 0) in
    let back : sum_below n (λ m. cond (ltb (mate (mate m)) (mate m)) (w (mate m)) 0) ≡ sum_below n (λ m. cond (ltb m (mate m)) (w (mate m)) 0) =
    sum_same n _ _ (λ m h. ap (λ z. cond (ltb z (mate m)) (w (mate m)) 0) (p.back m h)) in
    let whole : sum_below n (λ m. cond (ltb m (mate m)) (w m + w (mate m)) 0) ≡ sum_below n
    (λ m. cond (ltb m (mate m)) (w m) 0 + cond (ltb m (mate m)) (w (mate m)) 0) =
    sum_same n _ _ (λ m h. cond_added (ltb m (mate m)) (w m) (w (mate m))) in
    let again = sum_added n (λ m. cond (ltb m (mate m)) (w m) 0) (λ m. cond (ltb m (mate m)) (w (mate m)) 0) in
    omega (arith, split, parted, moved, back, whole, again)

even_but_differ : (t a b : Bool) → cond t (cond a 1 0 + cond b 1 0) 0 % 2 ≡ cond t (cond (differ a b) 1 0) 0 % 2
even_but_differ true true true = refl
even_but_differ true true false = refl
even_but_differ true false true = refl
even_but_differ true false false = refl
even_but_differ false a b = refl

-- as many pairs leave a set as it has members, up to parity
pub leaving_parity : (n : ℕ) (mate : ℕ → ℕ) → IsPairing n mate → (set : ℕ → Bool) → leaving n mate set % 2 ≡ size_of n set % 2
leaving_parity n mate p set =
    let e = sum_by_pairs n mate p (λ m. cond (set m) 1 0) in
    sym (sum_parity n _ _ (λ m h. even_but_differ (ltb m (mate m)) (set m) (set (mate m)))) ∙ sym (ap (λ z. z % 2) e)

-- ---- the loads of the pairs

one_load : (k : ℕ) (value : ℕ → ℕ) (d : ℕ → Bool) (t : Bool)
    → cond t (sum_below k (λ i. cond (d i) (value i) 0)) 0 ≡ sum_below k (λ i. cond t (cond (d i) 1 0) 0 * value i)
one_load k value d true = sum_same k _ _ (λ i h. one_value (d i) (value i))
one_load k value d false = sym (sum_times_none k value)

-- the loads of all pairs are the values, each taken as often as a pair leaves its set
pub loads_of_pairs : (n k : ℕ) (value : ℕ → ℕ) (holds : ℕ → ℕ → Bool) (mate : ℕ → ℕ)
    → pairs_sum n mate (load_in k value holds) ≡ sum_below k (λ i. leaving n mate (holds i) * value i)
loads_of_pairs n k value holds mate =
    sum_same n _ _ (λ m h. one_load k value (λ i. differ (holds i m) (holds i (mate m))) (ltb m (mate m))) ∙
    sum_turned n k _ ∙
    sum_same k _ _ (λ i h. sum_times n _ (value i))

pub pairs_most : (n : ℕ) (mate : ℕ → ℕ) (v w : ℕ → ℕ → ℕ) → IsPairing n mate
    → ((s t : ℕ) → s < n → t < n → s ≢ t → v s t ≤ w s t) → pairs_sum n mate v ≤ pairs_sum n mate w
pairs_most n mate v w p h = sum_most n _ _ (λ m l. elim (cases_Bool (ltb m (mate m))) [
  | inl t ↦ omega (arith, cond-true _ (v m (mate m)) 0 t, cond-true _ (w m (mate m)) 0 t, h m (mate m) l (p.range m l) (λ q. p.apart m l (sym q)))
  | inr t ↦ omega (arith, cond-false _ (v m (mate m)) 0 t, cond-false _ (w m (mate m)) 0 t)
])

pub values_bound : ValuesBoundPairings
values_bound n k value holds distanceance mate odd within p =
    let less : sum_below k value ≤ sum_below k (λ i. leaving n mate (holds i) * value i) =
    sum_most k _ _ (λ i h. elim (odd i h) [
      | inl none ↦ omega arith
      | inr o ↦ at_least_once (leaving n mate (holds i)) (value i) (omega (arith, leaving_parity n mate p (holds i)))
    ]) in
    omega (arith, less, loads_of_pairs n k value holds mate, pairs_most n mate (load_in k value holds) distanceance p within)

pub families_bound : FamiliesBoundPairings
families_bound f distance mate p within pairing = values_bound f.size (2 * f.size) f.value f.holds distance mate (λ i h. elim (cases_Bool (f.live i)) [
  | inl live ↦ inr (p.laminar.sets.odd i h live)
  | inr dead ↦ inl (p.value_dead i dead)
]) within pairing

pub differ_in : (a b : Bool) → a ≡ true → b ≡ false → differ a b ≡ true
differ_in true false e e' = refl
differ_in true true e e' = let no : true ≡ false = e' in cc
differ_in false b e e' = let no : false ≡ true = e in cc

pub differ_out : (a b : Bool) → a ≡ false → b ≡ true → differ a b ≡ true
differ_out false true e e' = refl
differ_out true b e e' = let no : true ≡ false = e in cc
differ_out false false e e' = let no : false ≡ true = e' in cc
