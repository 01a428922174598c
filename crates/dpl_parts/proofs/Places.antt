-- A sum over all numbers is the sum over the lists that share them out.
use Rattle.std.proofs.Common.{arith, ◌≡◌, ◌≢◌, ◌⊎◌, ℕ, zero, suc, ◌+◌, ◌<◌, ◌==◌, refl, sym, ap, ◌∙◌, inl, inr, List, [], ◌∷◌, eq-eqb}
use Rattle.std.specs.Prelude.{if◌then◌else◌, All, AllPairs, Contains, sum_by, slice_index_or}
use Rattle.std.proofs.lemmas.Bool.{cases_eq, ne_eqb, cond-true, cond-false}
use Rattle.std.proofs.lemmas.List.Sums.{sum_by-cons}
use Rattle.dpl_parts.proofs.Faces.{found}
use Rattle.dpl_list.proofs.Sums.{sum_by_alike}
use Rattle.dpl_sign.proofs.Loads.{sum_to_same, sum_to}

-- the same numbers, but 0 at one place
abbrev out : ℕ → (ℕ → ℕ) → ℕ → ℕ
out y f x = if y == x then 0 else f x

out_here : (y x : ℕ) (f : ℕ → ℕ) → y ≡ x → out y f x ≡ 0
out_here y x f e = cond-true (y == x) 0 (f x) (eq-eqb y x e)

out_other : (y x : ℕ) (f : ℕ → ℕ) → y ≢ x → out y f x ≡ f x
out_other y x f n = cond-false (y == x) 0 (f x) (ne_eqb y x n)

sum_out : (y n : ℕ) (f : ℕ → ℕ) → y < n → sum_to f n ≡ f y + sum_to (out y f) n
sum_out y zero f l = absurd (omega arith)
sum_out y (suc n) f l = elim (cases_eq y n) [
  | inl e ↦
      let a = out_here y n f e in
      let b : f y ≡ f n = ap f e in
      let s = sum_to_same (out y f) f n (λ x k. out_other y x f (λ r. omega (arith, e, r, k))) in
      omega (arith, a, b, s)
  | inr e ↦ let r = sum_out y n f (omega arith) in let o = out_other y n f e in omega (arith, r, o)
]

-- the same numbers, but 0 at the places of the numbers below m
abbrev pub cleared : (ℕ → ℕ) → (ℕ → ℕ) → ℕ → ℕ → ℕ
cleared place f zero x = f x
cleared place f (suc m) x = out (place m) (cleared place f m) x

pub cleared_away : (place f : ℕ → ℕ) (m x : ℕ) → ((i : ℕ) → i < m → place i ≢ x) → cleared place f m x ≡ f x
cleared_away place f zero x none = refl
cleared_away place f (suc m) x none = out_other (place m) x (cleared place f m) (none m (omega arith)) ∙ cleared_away place f m x (λ i l. none i (omega arith))

pub cleared_at : (place f : ℕ → ℕ) (m i x : ℕ) → i < m → place i ≡ x → cleared place f m x ≡ 0
cleared_at place f zero i x l e = absurd (omega arith)
cleared_at place f (suc m) i x l e = elim (cases_eq (place m) x) [
  | inl r ↦ out_here (place m) x (cleared place f m) r
  | inr r ↦ out_other (place m) x (cleared place f m) r ∙
      cleared_at place f m i x (elim (cases_eq i m) [ inl z ↦ absurd (r (ap place (sym z) ∙ e)) | inr z ↦ omega arith ])
      e
]

pub sum_cleared : (place f : ℕ → ℕ) (m n : ℕ) → ((i : ℕ) → i < m → place i < n) → ((i j : ℕ) → i < m → j < m → place i ≡ place j → i ≡ j)
    → sum_to f n ≡ sum_to (λ i. f (place i)) m + sum_to (cleared place f m) n
sum_cleared place f zero n inside one = let e : sum_to (cleared place f 0) n ≡ sum_to f n = refl in omega (arith, e)
sum_cleared place f (suc m) n inside one =
    let r = sum_cleared place f m n (λ i l. inside i (omega arith)) (λ i j l k. one i j (omega arith) (omega arith)) in
    let o = sum_out (place m) n (cleared place f m) (inside m (omega arith)) in
    let c = cleared_away place f m (place m) (λ i l e. let z = one i m (omega arith) (omega arith) e in omega (arith, z, l)) in
    omega (arith, r, o, c)

-- each of the lists has its numbers at places of its own
pub record AreShares {X : Type 0} (size : X → ℕ) (place : X → ℕ → ℕ) (n : ℕ) (xs : List X) : Type 0 where
  pub inside : All (λ x. (i : ℕ) → i < size x → place x i < n) xs
  pub one : All (λ x. (i j : ℕ) → i < size x → j < size x → place x i ≡ place x j → i ≡ j) xs
  pub apart : AllPairs (λ x y. (i j : ℕ) → i < size x → j < size y → place x i ≢ place y j) xs

-- one of the lists has the place
pub record IsHeld {X : Type 0} (size : X → ℕ) (place : X → ℕ → ℕ) (xs : List X) (y : ℕ) : Type 0 where
  pub holder : X
  pub among : Contains xs holder
  pub own : ℕ
  pub below : own < size holder
  pub is : place holder own ≡ y

zero_sum : (f : ℕ → ℕ) (n : ℕ) → ((y : ℕ) → y < n → f y ≡ 0) → sum_to f n ≡ 0
zero_sum f zero h = refl
zero_sum f (suc n) h = let a = h n (omega arith) in let r = zero_sum f n (λ y l. h y (omega arith)) in omega (arith, a, r)

module _ {X : Type 0} (size : X → ℕ) (place : X → ℕ → ℕ) (n : ℕ) where
  pub shares_rest : (x : X) (xs : List X) → AreShares size place n (x ∷ xs) → AreShares size place n xs
  shares_rest x xs h = record {
    inside = λ k d l. h.inside (suc k) d (omega (arith, l));
    one = λ k d l. h.one (suc k) d (omega (arith, l));
    apart = λ i j d l m. h.apart (suc i) (suc j) d (omega arith) (omega (arith, m));
  }

  held_rest : (x : X) (xs : List X) (y : ℕ) → ((i : ℕ) → i < size x → place x i ≢ y) → IsHeld size place (x ∷ xs) y → IsHeld size place xs y
  held_rest x xs y none h = held h.among where
    held : Contains (x ∷ xs) h.holder → IsHeld size place xs y
    held (zero, l, e) =
        let b : h.own < size x = let s : size x ≡ size h.holder = ap size e in let o = h.below in omega (arith, s, o) in
        absurd (none h.own b (ap (λ z. place z h.own) e ∙ h.is))
    held (suc k, l, e) = record { holder = h.holder; among = (k, omega (arith, l), e); own = h.own; below = h.below; is = h.is }

  pub sum_shared : (xs : List X) (f : ℕ → ℕ) → AreShares size place n xs → ((y : ℕ) → y < n → (f y ≡ 0) ⊎ IsHeld size place xs y)
      → sum_to f n ≡ sum_by (λ x. sum_to (λ i. f (place x i)) (size x)) xs
  sum_shared [] f h all = zero_sum f n (λ y l. elim (all y l) [ inl z ↦ z | inr z ↦ let m = z.among.1 in absurd (omega (arith, m)) ])
  sum_shared (x ∷ xs) f h all =
      let g = cleared (place x) f (size x) in
      let s = sum_cleared (place x) f (size x) n (h.inside 0 x (omega arith)) (h.one 0 x (omega arith)) in
      let rest = sum_shared xs g (shares_rest x xs h) (λ y l. elim (found (place x) (size x) y) [
        | inl (i, k, e) ↦ inl (cleared_at (place x) f (size x) i y k e)
        | inr none ↦ elim (all y l) [
          | inl z ↦ inl (cleared_away (place x) f (size x) y none ∙ z)
          | inr z ↦ inr (held_rest x xs y none z)
        ]
      ]) in
      let same = sum_by_alike (λ z. sum_to (λ i. g (place z i)) (size z)) (λ z. sum_to (λ i. f (place z i)) (size z)) xs (λ k d l.
      sum_to_same _ _ (size (slice_index_or xs k d)) (λ j m. cleared_away (place x) f (size x)
      (place (slice_index_or xs k d) j) (λ i b. h.apart 0 (suc k) d (omega arith) (omega (arith, l)) i j b m))) in
      let c = sum_by-cons (λ z. sum_to (λ i. f (place z i)) (size z)) x xs in
      omega (arith, s, rest, same, c)
