-- Facts about all, some and all pairs of the items of a list.
use Rattle.std.proofs.Common.{arith, ◌≡◌, ℕ, zero, suc, ◌+◌, ◌-◌, ◌<◌, ◌≤◌, List, length, get_or, ◌∙◌, All, AllPairs, subst, take, drop, replicate}
use Rattle.std.proofs.Common.{Any, Contains, refl, sym, ap, inl, inr, ◌⊎◌, ◌∷◌, [], ◌++◌, Bool, true, false, cond}
use Rattle.std.proofs.Common.{filter, length-append, map}
use Rattle.std.specs.List.{remove}
use Rattle.std.specs.List.Sorted.{IsPermutation}
use Rattle.std.proofs.lemmas.Bool.{cases_lt}
use Rattle.std.proofs.lemmas.List.{get_or_append_left, get_or-append_right, get_or-append-add, get_or-map, length-map, take_at}
use Rattle.std.proofs.lemmas.List.Sorted.{IsPermutation-remove, Contains-permutation, length_permutation}

-- ---- the first item and the others

pub pairs_head : {X : Type 0} (R : X → X → Type 0) (x : X) (xs : List X) → AllPairs R (x ∷ xs) → All (R x) xs
pairs_head R x xs a k d l = a 0 (suc k) d (omega arith) (omega arith)

pub pairs_tail : {X : Type 0} (R : X → X → Type 0) (x : X) (xs : List X) → AllPairs R (x ∷ xs) → AllPairs R xs
pairs_tail R x xs a i j d h l = a (suc i) (suc j) d (omega arith) (omega arith)

pub any_head : {X : Type 0} (P : X → Type 0) (x : X) (xs : List X) → P x → Any P (x ∷ xs)
any_head P x xs p = (0, x, omega arith, refl, p)

pub any_tail : {X : Type 0} (P : X → Type 0) (x : X) (xs : List X) → Any P xs → Any P (x ∷ xs)
any_tail P x xs (k, y, l, e, p) = (suc k, y, omega arith, e, p)

pub none_in : {X P : Type 0} (x : X) → Contains [] x → P
none_in x (k, l, e) = absurd (omega arith)

pub in_cons : {X : Type 0} (x y : X) (xs : List X) → Contains (x ∷ xs) y → (x ≡ y) ⊎ Contains xs y
in_cons x y xs (zero, l, e) = inl e
in_cons x y xs (suc k, l, e) = inr (k, omega arith, e)

pub in_head : {X : Type 0} (x y : X) (xs : List X) → x ≡ y → Contains (x ∷ xs) y
in_head x y xs e = (0, omega arith, e)

pub in_tail : {X : Type 0} (x y : X) (xs : List X) → Contains xs y → Contains (x ∷ xs) y
in_tail x y xs (k, l, e) = (suc k, omega arith, e)

-- ---- one list behind another

pub any_left : {X : Type 0} (P : X → Type 0) (xs ys : List X) → Any P xs → Any P (xs ++ ys)
any_left P xs ys (k, x, l, e, p) = (k, x, rw length-append (omega arith), get_or_append_left xs ys x k l ∙ e, p)

pub any_right : {X : Type 0} (P : X → Type 0) (xs ys : List X) → Any P ys → Any P (xs ++ ys)
any_right P xs ys (k, x, l, e, p) = (length xs + k, x, rw length-append (omega arith), get_or-append-add xs ys k x ∙ e, p)

-- what holds of some item of two lists holds of one of the first or of one of the second
pub any_split : {X : Type 0} (P : X → Type 0) (xs ys : List X) → Any P (xs ++ ys) → Any P xs ⊎ Any P ys
any_split P xs ys (k, x, l, e, p) = let n = length-append xs ys in elim (cases_lt k (length xs)) [
  | inl h ↦ inl (k, x, h, sym (get_or_append_left xs ys x k h) ∙ e, p)
  | inr h ↦ inr (k - length xs, x, omega arith, sym (get_or-append_right xs ys (length xs) k x refl h) ∙ e, p)
]

pub all_pairs_append : {X : Type 0} (R : X → X → Type 0) (xs ys : List X) → AllPairs R xs → AllPairs R ys
    → ((i j : ℕ) (d : X) → i < length xs → j < length ys → R (get_or xs i d) (get_or ys j d)) → AllPairs R (xs ++ ys)
all_pairs_append R xs ys a b c i j d h l =
    let n : length (xs ++ ys) ≡ length xs + length ys = length-append xs ys in
    elim (cases_lt j (length xs)) [
      | inl g ↦ rw (get_or_append_left xs ys d i (omega arith), get_or_append_left xs ys d j g) (a i j d h g)
      | inr g ↦ elim (cases_lt i (length xs)) [
        | inl f ↦ rw (get_or_append_left xs ys d i f, get_or-append_right xs ys (length xs) j d refl g) (c i (j - length xs) d f (omega arith))
        | inr f ↦ rw (
          get_or-append_right xs ys (length xs) i d refl f,
          get_or-append_right xs ys (length xs) j d refl g,
        )
            (b (i - length xs) (j - length xs) d (omega arith) (omega arith))
      ]
    ]

-- ---- items by their places

-- an item of a list that has the place k
pub some_of : {X : Type 0} (xs : List X) (k : ℕ) → k < length xs → X
some_of [] k l = absurd (omega arith)
some_of (x ∷ xs) k l = x

-- a list that was written over from its front, as long as it was
pub refilled : {X : Type 0} (n : ℕ) (ws xs : List X) → n ≡ length xs → length ws ≡ length xs → take n (ws ++ drop (length ws) xs) ≡ ws
refilled n ws xs l e = take_at ws (drop (length ws) xs) n (e ∙ sym l)

-- in a list of one thing each place gives it, and so does a place behind its end
pub repeated : {X : Type 0} (n k : ℕ) (d : X) → get_or (replicate n d) k d ≡ d
repeated zero k d = refl
repeated (suc n) zero d = refl
repeated (suc n) (suc k) d = repeated n k d

pub all_pairs_map : {X Y : Type 0} (f : X → Y) (R : Y → Y → Type 0) (xs : List X) → AllPairs (λ a b. R (f a) (f b)) xs → AllPairs R (map f xs)
all_pairs_map f R xs a i j d h l =
    let n : length (map f xs) ≡ length xs = length-map xs f in
    let l' : j < length xs = omega arith in
    let s = some_of xs j l' in
    rw (get_or-map f xs i s d (omega arith), get_or-map f xs j s d l') (a i j s h l')

-- pairs that are related once each is seen as another thing are related so themselves
pub all_pairs_of_map : {X Y : Type 0} (f : X → Y) (R : Y → Y → Type 0) (xs : List X) → AllPairs R (map f xs) → AllPairs (λ a b. R (f a) (f b)) xs
all_pairs_of_map f R xs a i j d h l =
    let n = length-map xs f in
    subst (λ z. R z (f (get_or xs j d))) (get_or-map f xs i d (f d) (omega (arith, h, l)))
    (subst (λ z. R (get_or (map f xs) i (f d)) z) (get_or-map f xs j d (f d) l) (a i j (f d) h (omega (arith, l, n))))

pub contains_map : {X Y : Type 0} (f : X → Y) (xs : List X) (x : X) (y : Y) → Contains xs x → f x ≡ y → Contains (map f xs) y
contains_map f xs x y (k, l, e) g = (k, rw (length-map xs f) l, get_or-map f xs k x y l ∙ ap f e ∙ g)

pub any_contains : {X : Type 0} (P : X → Type 0) (xs : List X) (x : X) → Contains xs x → P x → Any P xs
any_contains P xs x (k, l, e) p = (k, x, l, e, p)

pub any_permutation : {X : Type 0} (P : X → Type 0) (xs ys : List X) → IsPermutation xs ys → Any P xs → Any P ys
any_permutation P xs ys p (k, x, l, e, q) = let (m, n, f) = Contains-permutation xs ys x p (k, l, e) in (m, x, n, f, q)

-- an item that passes the test is kept
pub kept_by : {X : Type 0} (p : X → Bool) (xs : List X) (k : ℕ) (x : X) → k < length xs → get_or xs k x ≡ x → p x ≡ true → Contains (filter p xs) x
kept_by p [] k x l e t = absurd (omega arith)
kept_by p (y ∷ ys) zero x l e t = rw (e, t) (0, omega arith, refl)
kept_by {X} p (y ∷ ys) (suc k) x l e t = later (p y) (kept_by p ys k x (omega arith) e t) where
  later : (b : Bool) → Contains (filter p ys) x → Contains (cond b (y ∷ filter p ys) (filter p ys)) x
  later true (m, n, f) = (suc m, omega arith, f)
  later false c = c

-- different items that are all in a list are no more than its items
pub no_more : {X : Type 0} (xs ys : List X) → AllPairs (λ a b. ¬ (a ≡ b)) xs → All (Contains ys) xs → length xs ≤ length ys
no_more [] ys up among = omega arith
no_more {X} (x ∷ xs) ys up among =
    let (k, l, e) = among 0 x (omega arith) in
    let p : IsPermutation ys (x ∷ remove ys k) = IsPermutation-remove ys k x l (sym e) in
    let n : length (x ∷ remove ys k) ≡ length ys = length_permutation ys (x ∷ remove ys k) p in
    let h : length xs ≤ length (remove ys k) = no_more xs (remove ys k)
    (λ i j d h m. up (suc i) (suc j) d (omega arith) (omega arith))
    (λ i d m. rest (remove ys k) (get_or xs i d) (λ f. up 0 (suc i) d (omega arith) (omega arith) (sym f))
    (Contains-permutation ys (x ∷ remove ys k) (get_or xs i d) p (among (suc i) d (omega arith)))) in
    omega arith where
      rest : (zs : List X) (y : X) → ¬ (y ≡ x) → Contains (x ∷ zs) y → Contains zs y
      rest zs y n (zero, m, f) = absurd (n (sym f))
      rest zs y n (suc k, m, f) = (k, omega arith, f)
