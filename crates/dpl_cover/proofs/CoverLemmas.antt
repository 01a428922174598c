-- Which columns boxes cover in the row that a sweep has reached.
use Rattle.std.proofs.Common.{arith, ◌≡◌, inl, inr, ap, ℕ, ◌+◌, ◌<◌, ◌≤◌, ◌^◌, ℤ, pos, neg_ℤ, ◌≤ℤ◌, ◌<ℤ◌, List}
use Rattle.std.proofs.Common.{length, get_or, take, ◌++◌}
use Rattle.std.specs.List.Sorted.{IsPermutation}
use Rattle.std.proofs.lemmas.List.{get_or_default, length-take, length-append}
use Rattle.std.proofs.lemmas.List.Sorted.{length_permutation}
use Rattle.std.proofs.lemmas.Bool.{cases_lt}
use Rattle.dpl_list.specs.Order.{Ascends}
use Rattle.dpl_list.proofs.Integers.{signed}
use Rattle.dpl_cell.specs.declared.rect.Rect.{Rect}
use Rattle.dpl_cover.specs.declared.cover.Cover.{Cover}
use Rattle.dpl_cover.specs.Covers.{IsCover, IsPassed}

-- ---- boxes up to a row

-- the row goes up
pub still_passed : (key : Rect → ℤ) (boxes : List Rect) (low high : ℤ) (m : ℕ) → low ≤ℤ high → IsPassed key low boxes m
    → (k : ℕ) (d : Rect) → k < m → key (get_or boxes k d) ≤ℤ high
still_passed key boxes low high m up p k d h = let a = p.up_to k d h in omega (signed, a, up)

-- one more box has its key up to the row
pub passed_one_more : (key : Rect → ℤ) (boxes : List Rect) (row : ℤ) (n : ℕ) (r : Rect) → n < length boxes
    → key (get_or boxes n r) ≤ℤ row → ((k : ℕ) (d : Rect) → k < n → key (get_or boxes k d) ≤ℤ row)
    → (k : ℕ) (d : Rect) → k < n + 1 → key (get_or boxes k d) ≤ℤ row
passed_one_more key boxes row n r within here before k d h = elim (cases_lt k n) [
  | inl l ↦ before k d l
  | inr l ↦ let e : k ≡ n = omega (arith, h, l) in rw (e, get_or_default boxes n d r within) here
]

-- the first one that has not
pub passed_up_to : (key : Rect → ℤ) (boxes : List Rect) (row : ℤ) (n : ℕ) (r : Rect) → Ascends key boxes → n < length boxes
    → row <ℤ key (get_or boxes n r) → ((k : ℕ) (d : Rect) → k < n → key (get_or boxes k d) ≤ℤ row) → IsPassed key row boxes n
passed_up_to key boxes row n r up within here before = record {
  within = omega (arith, within);
  up_to = before;
  beyond = λ k d l h. let u = rw (get_or_default boxes k r d h) at (up n k r l h) in omega (signed, u, here);
}

-- ---- the counts stay small

pub few_counted : (c : Cover) → IsCover c → length (take c.began c.begins.items) + length (take c.ended c.ends.items) ≤ 2 ^ 41
few_counted c s =
    let a = length-take c.began c.begins.items in let b = length-take c.ended c.ends.items in
    let e = length_permutation c.begins.items c.ends.items s.same in omega (arith, a, b, e, s.few)

pub few_between : (boxes all : List Rect) (m n k : ℕ) → take n all ≡ take m all ++ boxes → length all ≤ k → length boxes ≤ k
few_between boxes all m n k e few =
    let a = length-take n all in let b = length-append (take m all) boxes in let l = ap (λ (xs : List Rect). length xs) e in
    omega (arith, a, b, l, few)

pub all_few : (c : Cover) → IsCover c → length c.ends.items ≤ 2 ^ 40
all_few c s = let e = length_permutation c.begins.items c.ends.items s.same in omega (arith, e, s.few)

-- ---- below all boxes

pub none_passed : (key : Rect → ℤ) (row : ℤ) (boxes : List Rect) → ((r : Rect) → row <ℤ key r) → IsPassed key row boxes 0
none_passed key row boxes low = record {
  within = omega arith;
  up_to = λ k d h. absurd (omega (arith, h));
  beyond = λ k d h l. low (get_or boxes k d);
}

pub first_low : (r : Rect) → neg_ℤ (pos (2 ^ 63)) <ℤ r.y1
first_low r = let b = r.below in omega (signed, b)

pub first_high : (r : Rect) → neg_ℤ (pos (2 ^ 63)) <ℤ r.y2
first_high r = let b = r.below in let h = r.high in omega (signed, b, h)

pub few_permuted : (xs ys : List Rect) (n : ℕ) → IsPermutation xs ys → length xs ≤ n → length ys ≤ n
few_permuted xs ys n p h = let e = length_permutation xs ys p in omega (arith, e, h)
