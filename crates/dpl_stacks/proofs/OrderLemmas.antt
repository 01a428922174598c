-- Stacks in order: parts of a list, lists from the right, and where the stacks on one side of a column end.
use Rattle.std.proofs.Common.{arith, ◌≡◌, ℕ, ◌+◌, ◌-◌, ◌<◌, ℤ, List, length, length-append}
use Rattle.std.proofs.Common.{get_or, take, drop, reverse, All, AllPairs, refl, inl, inr, ◌++◌, true, int_le, int_lt}
use Rattle.std.specs.List.{AllWithin}
use Rattle.std.specs.List.Sorted.{IsPartitionedBy}
use Rattle.std.proofs.lemmas.Bool.{cases_lt}
use Rattle.std.proofs.lemmas.List.{get_or-take, get_or-drop, get_or-reverse, length-take, length-drop, length-reverse}
use Rattle.std.proofs.lemmas.List.{get_or_append_left, get_or-append_right, get_or-append-add}
use Rattle.dpl_cell.specs.declared.rect.Rect.{Rect}
use Rattle.dpl_stacks.specs.Stacks.{IsLeftOf}
use Rattle.dpl_list.proofs.Integers.{signed, is_less, less_test, is_at_most, at_most_test}

-- ---- parts of a list

pub all_left : {X : Type 0} (P : X → Type 0) (xs ys : List X) → All P (xs ++ ys) → All P xs
all_left P xs ys a k d l = let n = length-append xs ys in rw (get_or_append_left xs ys d k l) at (a k d (omega arith))

pub all_right : {X : Type 0} (P : X → Type 0) (xs ys : List X) → All P (xs ++ ys) → All P ys
all_right P xs ys a k d l =
    let n = length-append xs ys in
    let e : length xs + k - length xs ≡ k = omega arith in
    rw (get_or-append_right xs ys (length xs) (length xs + k) d refl (omega arith), e) at (a (length xs + k) d (omega arith))

pub part_ordered : (xs ys : List Rect) → AllPairs IsLeftOf (xs ++ ys) → AllPairs IsLeftOf xs × AllPairs IsLeftOf ys
part_ordered xs ys up = (
  (λ i j d h l. let n = length-append xs ys in rw (get_or_append_left xs ys d i (omega arith), get_or_append_left xs ys d j l) at (up i j d h (omega arith))),
  (λ i j d h l. let n = length-append xs ys in
      let e : length xs + i - length xs ≡ i = omega arith in
      let f : length xs + j - length xs ≡ j = omega arith in
      rw (
        get_or-append_right xs ys (length xs) (length xs + i) d refl (omega arith),
        e,
        get_or-append_right xs ys (length xs) (length xs + j) d refl (omega arith),
        f,
      ) at
      (up (length xs + i) (length xs + j) d (omega arith) (omega arith))),
)

-- the order of one of the first list and one of the second
pub across : (xs ys : List Rect) → AllPairs IsLeftOf (xs ++ ys) → (i j : ℕ) (d : Rect) → i < length xs
    → j < length ys → IsLeftOf (get_or xs i d) (get_or ys j d)
across xs ys up i j d h l = let n = length-append xs ys in
    rw (get_or_append_left xs ys d i h, get_or-append-add xs ys j d) at
    (up i (length xs + j) d (omega arith) (omega arith))

-- ---- lists from the right

pub all_reverse : (P : Rect → Type 0) (xs : List Rect) → All P xs → All P (reverse xs)
all_reverse P xs a k d l = let n = length-reverse xs in rw (get_or-reverse xs k d (omega arith)) (a (length xs - 1 - k) d (omega arith))

-- a later one from the right lies left of an earlier one
pub from_right : (xs : List Rect) → AllPairs IsLeftOf (reverse xs) → (i j : ℕ) (d : Rect) → i < j → j < length xs → IsLeftOf (get_or xs j d) (get_or xs i d)
from_right xs up i j d h l =
    let n = length-reverse xs in
    let e : length xs - 1 - (length xs - 1 - j) ≡ j = omega arith in
    let f : length xs - 1 - (length xs - 1 - i) ≡ i = omega arith in
    rw (
      get_or-reverse xs (length xs - 1 - j) d (omega arith),
      e,
      get_or-reverse xs (length xs - 1 - i) d (omega arith),
      f,
    ) at (up (length xs - 1 - j) (length xs - 1 - i) d (omega arith) (omega arith))

-- ---- where the stacks on one side of a column end

pub parted_left : (held : List Rect) (c : ℤ) → AllPairs IsLeftOf held → IsPartitionedBy (λ r. int_lt r.x2 c) held
parted_left held c up i j d le l e = elim (cases_lt i j) [
  | inl h ↦ step (get_or held i d) (get_or held j d) (up i j d h l) e
  | inr h ↦ let f : i ≡ j = omega arith in rw f e
] where
  step : (a b : Rect) → IsLeftOf a b → int_lt b.x2 c ≡ true → int_lt a.x2 c ≡ true
  step a b h e = let w = b.wide in let g = is_less b.x2 c e in less_test a.x2 c (omega signed)

pub parted_left_back : (xs : List Rect) (c : ℤ) → AllPairs IsLeftOf (reverse xs) → IsPartitionedBy (λ r. int_le c r.x2) xs
parted_left_back xs c up i j d le l e = elim (cases_lt i j) [
  | inl h ↦ step (get_or xs i d) (get_or xs j d) (from_right xs up i j d h l) e
  | inr h ↦ let f : i ≡ j = omega arith in rw f e
] where
  step : (a b : Rect) → IsLeftOf b a → int_le c b.x2 ≡ true → int_le c a.x2 ≡ true
  step a b h e = let w = a.wide in let g = is_at_most c b.x2 e in at_most_test c a.x2 (omega signed)

pub parted_right_back : (xs : List Rect) (c : ℤ) → AllPairs IsLeftOf (reverse xs) → IsPartitionedBy (λ r. int_lt c r.x1) xs
parted_right_back xs c up i j d le l e = elim (cases_lt i j) [
  | inl h ↦ step (get_or xs i d) (get_or xs j d) (from_right xs up i j d h l) e
  | inr h ↦ let f : i ≡ j = omega arith in rw f e
] where
  step : (a b : Rect) → IsLeftOf b a → int_lt c b.x1 ≡ true → int_lt c a.x1 ≡ true
  step a b h e = let w = b.wide in let g = is_less c b.x1 e in less_test c a.x1 (omega signed)

-- ---- the first and the last of a list

pub first_ones : (P : Rect → Type 0) (xs : List Rect) (n : ℕ) → AllWithin P xs 0 n → All P (take n xs)
first_ones P xs n a k d l =
    let m = length-take n xs in
    let h : k < n = omega arith in
    rw (get_or-take n xs k d h) (a k d (omega arith) h)

pub last_ones : (P : Rect → Type 0) (xs : List Rect) (n : ℕ) → AllWithin P xs n (length xs) → All P (drop n xs)
last_ones P xs n a k d l = let m = length-drop n xs in rw (get_or-drop n xs k d) (a (n + k) d (omega arith) (omega arith))
