-- Two lists that are related item by item.
use Rattle.std.proofs.Common.{arith, ◌≡◌, ◌∙◌, refl, ℕ, zero, suc, ◌+◌, ◌<◌, ◌≤◌, Bool, true, false, List, length}
use Rattle.std.proofs.Common.{get_or, take, filter, ◌∷◌, [], ◌++◌, append-nil}
use Rattle.std.specs.List.{AllZip}
use Rattle.std.proofs.lemmas.List.{take_more, take_all}
use Rattle.std.proofs.lemmas.List.Elements.{filter_more}

pub zip_push : {A B : Type 0} (R : A → B → Type 0) (xs : List A) (ys : List B) (x : A) (y : B) → AllZip R xs ys → R x y → AllZip R (xs ++ x ∷ []) (ys ++ y ∷ [])
zip_push R [] [] x y a r = (r, tt)
zip_push R [] (y' ∷ ys) x y a r = elim a [ ]
zip_push R (x' ∷ xs) [] x y a r = elim a [ ]
zip_push R (x' ∷ xs) (y' ∷ ys) x y a r = (a.0, zip_push R xs ys x y a.1 r)

pub zip_more : {A B : Type 0} (R : A → B → Type 0) (xs : List A) (i : ℕ) (ys new : List B) (x : A) (y : B)
    → i < length xs → x ≡ get_or xs i x → AllZip R (take i xs) ys → new ≡ ys ++ y ∷ [] → R x y
    → AllZip R (take (i + 1) xs) new
zip_more R xs i ys new x y within is a e r = rw (take_more xs i x within, ← is, e) (zip_push R (take i xs) ys x y a r)

pub zip_all : {A B : Type 0} (R : A → B → Type 0) (xs : List A) (i : ℕ) (ys : List B) → length xs ≤ i → AllZip R (take i xs) ys → AllZip R xs ys
zip_all R xs i ys whole a = rw (take_all i xs whole) at a

-- the items that pass a test, one after the other
pub zip_kept : {A B : Type 0} (R : A → B → Type 0) (p : A → Bool) (xs : List A) (i : ℕ) (ys new : List B) (x : A) (y : B)
    → i < length xs → x ≡ get_or xs i x → AllZip R (filter p (take i xs)) ys → p x ≡ true → new ≡ ys ++ y ∷ []
    → R x y → AllZip R (filter p (take (i + 1) xs)) new
zip_kept R p xs i ys new x y within is a t e r =
    let g : filter p (take (i + 1) xs) ≡ filter p (take i xs) ++ x ∷ [] = filter_more p xs i x within ∙ rw (← is, t) refl in
    rw (g, e) (zip_push R (filter p (take i xs)) ys x y a r)

pub zip_left_out : {A B : Type 0} (R : A → B → Type 0) (p : A → Bool) (xs : List A) (i : ℕ) (ys : List B) (x : A)
    → i < length xs → x ≡ get_or xs i x → AllZip R (filter p (take i xs)) ys → p x ≡ false
    → AllZip R (filter p (take (i + 1) xs)) ys
zip_left_out R p xs i ys x within is a t =
    let g : filter p (take (i + 1) xs) ≡ filter p (take i xs) ++ [] = filter_more p xs i x within ∙ rw (← is, t) refl in
    rw (g, append-nil) a

pub zip_all_kept : {A B : Type 0} (R : A → B → Type 0) (p : A → Bool) (xs : List A) (i : ℕ) (ys : List B)
    → length xs ≤ i → AllZip R (filter p (take i xs)) ys → AllZip R (filter p xs) ys
zip_all_kept R p xs i ys whole a = rw (take_all i xs whole) at a

pub zip_length : {A B : Type 0} (R : A → B → Type 0) (xs : List A) (ys : List B) → AllZip R xs ys → length xs ≡ length ys
zip_length R [] [] a = omega arith
zip_length R [] (y ∷ ys) a = elim a [ ]
zip_length R (x ∷ xs) [] a = elim a [ ]
zip_length R (x ∷ xs) (y ∷ ys) a = let h = zip_length R xs ys a.1 in omega arith

pub zip_at : {A B : Type 0} (R : A → B → Type 0) (xs : List A) (ys : List B) (k : ℕ) (d : A) (e : B)
    → AllZip R xs ys → k < length xs → R (get_or xs k d) (get_or ys k e)
zip_at R [] [] k d e a l = absurd (omega arith)
zip_at R [] (y ∷ ys) k d e a l = elim a [ ]
zip_at R (x ∷ xs) [] k d e a l = elim a [ ]
zip_at R (x ∷ xs) (y ∷ ys) zero d e a l = a.0
zip_at R (x ∷ xs) (y ∷ ys) (suc k) d e a l = zip_at R xs ys k d e a.1 (omega arith)
