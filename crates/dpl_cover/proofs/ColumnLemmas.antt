-- The columns at which boxes end.
use Rattle.std.proofs.Common.{arith, ◌≡◌, ◌≢◌, ◌⊎◌, inl, inr, sym, subst, ℕ, ◌+◌, ◌+ℤ◌, ◌-◌, ◌<◌, ◌≤◌, ◌^◌, ℤ, pos, neg_ℤ, ◌<ℤ◌, ◌≤ℤ◌, List, length, get_or}
use Rattle.std.proofs.Common.{◌∙◌, zero, suc, take, drop, All, Contains, ◌∷◌, [], ◌++◌, refl, true, int_lt, int_le}
use Rattle.std.specs.Ordering.{int_cmp, int_eq}
use Rattle.std.specs.List.Sorted.{IsPermutation, IsSorted, IsPartitionedBy}
use Rattle.std.specs.List.{dedup}
use Rattle.std.proofs.lemmas.Cmp.{int_cmp_total, int_eq_equiv}
use Rattle.std.proofs.lemmas.List.{take_all, get_or_default, get_or-take, get_or-drop, length-drop, length-take-le}
use Rattle.std.proofs.lemmas.List.Elements.{All-push, All-weaker, All-more, Contains-append_left, Contains-push}
use Rattle.std.proofs.lemmas.List.Filters.{All-dedup}
use Rattle.std.proofs.lemmas.List.Kept.{IsStrictlySortedBy-dedup, Contains-dedup}
use Rattle.std.proofs.lemmas.List.Sorted.{Contains-permutation, All-permutation}
use Rattle.std.proofs.lemmas.Int.{ints}
use Rattle.std.proofs.lemmas.Map.Keys.{Less-from_sorted}
use Rattle.std.proofs.lemmas.Bool.{cases_lt}
use Rattle.dpl_list.proofs.Integers.{signed}
use Rattle.dpl_list.proofs.OrderLemmas.{less_by_order}
use Rattle.dpl_cell.specs.declared.rect.Rect.{Rect}
use Rattle.dpl_cell.specs.Ranges.{IsInRange}
use Rattle.dpl_cover.specs.Columns.{AddsEnds, AreColumns, AreRising, HasEnds, column_at}

ends_kept : (old new : List ℤ) (r : Rect) → ((z : ℤ) → Contains old z → Contains new z) → HasEnds old r → HasEnds new r
ends_kept old new r f h = record { left = f r.x1 h.left; right = f r.x2 h.right }

pub ends_pushed : (r : Rect) (old mid new : List ℤ) → mid ≡ old ++ r.x1 ∷ [] → new ≡ mid ++ r.x2 ∷ [] → AddsEnds r old new
ends_pushed r old mid new e f = rw (f, e) (record {
  kept = λ z c. Contains-append_left (old ++ r.x1 ∷ []) (r.x2 ∷ []) z (Contains-append_left old (r.x1 ∷ []) z c);
  has = record {
    left = Contains-append_left (old ++ r.x1 ∷ []) (r.x2 ∷ []) r.x1 (Contains-push old r.x1);
    right = Contains-push (old ++ r.x1 ∷ []) r.x2;
  };
  range = λ a. All-push IsInRange (old ++ r.x1 ∷ []) r.x2
      (All-push IsInRange old r.x1 a (record { low = r.left; high = left_high r }))
      (record { low = right_low r; high = r.right });
}) where
  left_high : (r : Rect) → r.x1 ≤ℤ pos (2 ^ 30)
  left_high r = omega signed

  right_low : (r : Rect) → neg_ℤ (pos (2 ^ 30)) ≤ℤ r.x2
  right_low r = omega signed

pub ends_more : (boxes : List Rect) (i : ℕ) (r : Rect) (old new : List ℤ) → i < length boxes
    → r ≡ get_or boxes i r → AddsEnds r old new → All (HasEnds old) (take i boxes)
    → All (HasEnds new) (take (i + 1) boxes)
ends_more boxes i r old new within is a h =
    All-more (HasEnds new) boxes i r within (All-weaker (HasEnds old) (HasEnds new)
    (λ p g. ends_kept old new p a.kept g) (take i boxes) h) (let g = a.has in rw is at g)

pub ends_all : (boxes : List Rect) (i : ℕ) (ends : List ℤ) → length boxes ≤ i → All (HasEnds ends) (take i boxes) → All (HasEnds ends) boxes
ends_all boxes i ends whole h = rw (take_all i boxes whole) at h

-- sorted, each once
pub columns_once : (boxes : List Rect) (ends sorted columns : List ℤ) → columns ≡ dedup int_eq sorted
    → IsPermutation ends sorted → IsSorted int_cmp sorted → All (HasEnds ends) boxes → All IsInRange ends
    → AreColumns boxes columns
columns_once boxes ends sorted columns is moved order has range = record {
  rising = λ i j l h. rw is (less_by_order _ _ (Less-from_sorted int_cmp (dedup int_eq sorted) i j (pos 0)
      (IsStrictlySortedBy-dedup int_cmp_total (λ x y. refl) sorted order) l (rw is at h)));
  all = All-weaker (HasEnds ends) (HasEnds columns) (λ r h. ends_kept ends columns r kept h) boxes has;
  range = rw is (All-dedup int_eq IsInRange sorted (All-permutation IsInRange ends sorted moved range));
}
  where
    same_by_test : (x y : ℤ) → int_eq x y ≡ true → x ≡ y
    same_by_test x y e = grind (arith, ints)

    kept : (z : ℤ) → Contains ends z → Contains columns z
    kept z h = rw is (Contains-dedup int_eq_equiv same_by_test sorted z (Contains-permutation ends sorted z moved h))

equal_or_less : (i j : ℕ) → i ≤ j → (i ≡ j) ⊎ (i < j)
equal_or_less i j h = search arith

rising_at : (columns : List ℤ) → AreRising columns → (i j : ℕ) (d : ℤ) → i < j → j < length columns
    → get_or columns i d <ℤ get_or columns j d
rising_at columns up i j d s l = let u = up i j s l in
    rw (get_or_default columns i (pos 0) d (omega (arith, s, l)), get_or_default columns j (pos 0) d l) at u

pub parted_left : (columns : List ℤ) (x : ℤ) → AreRising columns → IsPartitionedBy (λ z. int_lt z x) columns
parted_left columns x up i j d le l e = elim (equal_or_less i j le) [
  | inl s ↦ subst (λ k. int_lt (get_or columns k d) x ≡ true) (sym s) e
  | inr s ↦ less _ _ (rising_at columns up i j d s l) e
]
  where
    less : (a b : ℤ) → a <ℤ b → int_lt b x ≡ true → int_lt a x ≡ true
    less a b h e = grind (arith, ints)

pub parted_up_to : (columns : List ℤ) (x : ℤ) → AreRising columns → IsPartitionedBy (λ z. int_le z x) columns
parted_up_to columns x up i j d le l e = elim (equal_or_less i j le) [
  | inl s ↦ subst (λ k. int_le (get_or columns k d) x ≡ true) (sym s) e
  | inr s ↦ less _ _ (rising_at columns up i j d s l) e
]
  where
    less : (a b : ℤ) → a <ℤ b → int_le b x ≡ true → int_le a x ≡ true
    less a b h e = grind (arith, ints)

pub last_of_those : (n k : ℕ) → k ≡ n - 1 → (k ≡ 0) ⊎ (k < n)
last_of_those n k e = search arith

-- ---- some columns in a row

part_long : (columns : List ℤ) (m n : ℕ) → m + n ≤ length columns → length (take n (drop m columns)) ≡ n
part_long columns m n h = length-take-le n (drop m columns) (let e = length-drop m columns in omega (arith, e, h))

part_column : (columns : List ℤ) (m n k : ℕ) → k < n → column_at (take n (drop m columns)) k ≡ column_at columns (m + k)
part_column columns m n k h = get_or-take n (drop m columns) k (pos 0) h ∙ get_or-drop m columns k (pos 0)

pub part_rising : (columns : List ℤ) (m n : ℕ) → m + n ≤ length columns → AreRising columns → AreRising (take n (drop m columns))
part_rising columns m n h up i j l w =
    let below : j < n = rw (part_long columns m n h) at w in
    rw (part_column columns m n i (omega (arith, l, below)), part_column columns m n j below)
    (up (m + i) (m + j) (omega (arith, l)) (omega (arith, h, below)))

-- columns are as far apart as their places at least
apart : (columns : List ℤ) → AreRising columns → (i n : ℕ) → i + n < length columns → (column_at columns i +ℤ pos n) ≤ℤ column_at columns (i + n)
apart columns up i zero h = let e : i + zero ≡ i = omega arith in rw e (omega signed)
apart columns up i (suc n) h =
    let before = apart columns up i n (omega (arith, h)) in let next = up (i + n) (i + suc n) (omega arith) h in
    omega (signed, before, next)

-- the place for the right side of a box, looked for in some columns from that for its left side on
-- what is left of one column is left of what that is left of
pub left_up_to : (columns : List ℤ) (place : ℕ) (x : ℤ) → AreRising columns → place ≢ 0 → place < length columns
    → column_at columns (place - 1) <ℤ x → (k : ℕ) → k < place → column_at columns k <ℤ x
left_up_to columns place x up some within left k h = elim (cases_lt k (place - 1)) [
  | inl l ↦ let a = up k (place - 1) l (omega arith) in omega (signed, a, left)
  | inr l ↦ let e : place - 1 ≡ k = omega (arith, h, l, some) in rw e at left
]

pub not_left_from : (columns : List ℤ) (place : ℕ) (x : ℤ) → AreRising columns → x ≤ℤ column_at columns place
    → (k : ℕ) → place ≤ k → k < length columns → x ≤ℤ column_at columns k
not_left_from columns place x up right k h l = elim (cases_lt place k) [
  | inl g ↦ let a = up place k g l in omega (signed, a, right)
  | inr g ↦ let e : place ≡ k = omega (arith, h, g) in rw e at right
]

pub left_of_right : (columns : List ℤ) (from n p : ℕ) (x1 x2 : ℤ) → x1 <ℤ x2 → from + n ≤ length columns
    → ((k : ℕ) → k < from → column_at columns k <ℤ x1) → p ≤ length (take n (drop from columns))
    → ((k : ℕ) → k < p → column_at (take n (drop from columns)) k <ℤ x2) → (k : ℕ) → k < from + p → column_at columns k <ℤ x2
left_of_right columns from n p x1 x2 wide within left few found k h = elim (cases_lt k from) [
  | inl l ↦ let a = left k l in omega (signed, a, wide)
  | inr l ↦
      let j : k - from < p = omega (arith, h, l) in let e : from + (k - from) ≡ k = omega (arith, l) in
      let below : k - from < n = omega (arith, j, rw (part_long columns from n within) at few) in
      rw (part_column columns from n (k - from) below, e) at (found (k - from) j)
]

pub right_of_right : (columns : List ℤ) (from n p : ℕ) (x1 x2 : ℤ) → AreRising columns → from + n ≤ length columns
    → (from + n ≡ length columns) ⊎ (x1 +ℤ pos n ≡ x2)
    → ((k : ℕ) → from ≤ k → k < length columns → x1 ≤ℤ column_at columns k)
    → ((k : ℕ) → p ≤ k → k < length (take n (drop from columns)) → x2 ≤ℤ column_at (take n (drop from columns)) k)
    → (k : ℕ) → from + p ≤ k → k < length columns → x2 ≤ℤ column_at columns k
right_of_right columns from n p x1 x2 up within width others found k l h = elim (cases_lt (k - from) n) [
  | inl s ↦ rw (part_column columns from n (k - from) s, back) at (found (k - from) (omega (arith, l)) (rw (part_long columns from n within) s))
  | inr s ↦ elim width [
    | inl e ↦ absurd (omega (arith, e, s, h, l))
    | inr e ↦
        let a = rw back at (apart columns up from (k - from) (rw back h)) in
        let b = others from (omega arith) (omega (arith, l, h)) in omega (signed, a, b, e, s)
  ]
]
  where
    back : from + (k - from) ≡ k
    back = omega (arith, l)
