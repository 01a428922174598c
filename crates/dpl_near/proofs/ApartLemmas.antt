-- Rectangles that share no cell.
use Rattle.std.proofs.Common.{arith, ◌≡◌, ℕ, ◌+◌, ◌<◌, ◌≤◌, ◌<ℤ◌, ◌≤ℤ◌, List, length, get_or, AllPairs, inl, inr, map}
use Rattle.std.proofs.Common.{refl, sym, Bool, true, false, not, ◌&&◌, IsTrue}
use Rattle.std.specs.Int.{int_max, int_min}
use Rattle.std.proofs.lemmas.Bool.{cases_lt}
use Rattle.std.proofs.lemmas.List.{get_or_default, get_or-map, length-map}
use Rattle.dpl_cell.specs.declared.rect.Rect.{Rect}
use Rattle.dpl_cell.specs.Places.{Corners, corners_of}
use Rattle.dpl_cell.specs.Cells.{AreApart}
use Rattle.dpl_cell.specs.Gaps.{overlap}
use Rattle.dpl_cell.proofs.BoxLemmas.{is_true, not_by_test}
use Rattle.dpl_cell.proofs.SeamLemmas.{apart_sides}
use Rattle.dpl_list.proofs.Lists.{some_of}
use Rattle.dpl_list.proofs.Integers.{signed, is_less, not_less}

pub apart_by_columns : (a b : Corners) → int_min a.x2 b.x2 ≤ℤ int_max a.x1 b.x1 → AreApart a b
apart_by_columns a b h s = let f = s.first.column in let g = s.second.column in omega signed

pub apart_by_rows : (a b : Corners) → int_min a.y2 b.y2 ≤ℤ int_max a.y1 b.y1 → AreApart a b
apart_by_rows a b h s = let f = s.first.row in let g = s.second.row in omega signed

-- rectangles share no cell exactly where they have no columns or no rows in common
pub miss_apart : (a b : Corners) (p q : Bool) → p ≡ overlap a.x1 a.x2 b.x1 b.x2 → q ≡ overlap a.y1 a.y2 b.y1 b.y2 → IsTrue (not (p && q)) → AreApart a b
miss_apart a b false q e f t = apart_by_columns a b (not_less _ _ (sym e))
miss_apart a b true false e f t = apart_by_rows a b (not_less _ _ (sym f))
miss_apart a b true true e f t = absurd (not_by_test false refl (λ (u : IsTrue false). u) t)

pub apart_miss : (a b : Corners) (p q : Bool) → p ≡ overlap a.x1 a.x2 b.x1 b.x2 → q ≡ overlap a.y1 a.y2 b.y1 b.y2 → AreApart a b → IsTrue (not (p && q))
apart_miss a b false q e f h = is_true refl
apart_miss a b true false e f h = is_true refl
apart_miss a b true true e f h = absurd (elim (apart_sides a b h) [
  | inl g ↦ let l : int_max a.x1 b.x1 <ℤ int_min a.x2 b.x2 = is_less _ _ (sym e) in omega signed
  | inr g ↦ let l : int_max a.y1 b.y1 <ℤ int_min a.y2 b.y2 = is_less _ _ (sym f) in omega signed
])

-- the rectangles of numbers below j are apart
pub record ApartBelow (rects : List Rect) (j : ℕ) : Type 0 where
  pub each : (k l : ℕ) (d : Rect) → k < l → l < j → AreApart (corners_of (get_or rects k d)) (corners_of (get_or rects l d))

-- those of numbers below i are apart from the one at j
pub record ApartFrom (rects : List Rect) (i j : ℕ) : Type 0 where
  pub below : ApartBelow rects j
  pub each : (k : ℕ) (d : Rect) → k < i → AreApart (corners_of (get_or rects k d)) (corners_of (get_or rects j d))

pub below_none : (rects : List Rect) → ApartBelow rects 0
below_none rects = record { each = λ k l d h g. absurd (omega arith) }

pub from_none : (rects : List Rect) (j : ℕ) → ApartBelow rects j → ApartFrom rects 0 j
from_none rects j b = record { below = b; each = λ k d h. absurd (omega arith) }

pub from_more : (rects : List Rect) (i j : ℕ) (a b : Rect) → i < j → j < length rects → a ≡ get_or rects i a
    → b ≡ get_or rects j b → AreApart (corners_of a) (corners_of b) → ApartFrom rects i j
    → ApartFrom rects (i + 1) j
from_more rects i j a b h l e f apart s = record {
  below = s.below;
  each = λ k d g. elim (cases_lt k i) [
    | inl m ↦ s.each k d m
    | inr m ↦ let n : k ≡ i = omega arith in rw (n, get_or_default rects i d a (omega arith), get_or_default rects j d b l, ← e, ← f) apart
  ];
}

pub below_more : (rects : List Rect) (i j : ℕ) → j ≤ i → ApartFrom rects i j → ApartBelow rects (j + 1)
below_more rects i j h s = record {
  each = λ k l d g m. elim (cases_lt l j) [
    | inl n ↦ s.below.each k l d g n
    | inr n ↦ let e : l ≡ j = omega arith in rw e (s.each k d (omega arith))
  ];
}

corners_in : (rects : List Rect) (k : ℕ) (d : Rect) (e : Corners) → k < length rects → get_or (map corners_of rects) k e ≡ corners_of (get_or rects k d)
corners_in rects k d e l = get_or-map corners_of rects k d e l

pub all_apart : (rects : List Rect) (j : ℕ) → length rects ≤ j → ApartBelow rects j → AllPairs AreApart (map corners_of rects)
all_apart rects j whole s k l d h g =
    let n = length-map rects corners_of in
    let m : l < length rects = omega arith in
    let r = some_of rects l m in
    rw (corners_in rects k r d (omega arith), corners_in rects l r d m) (s.each k l r h (omega arith))

pub apart_at : (rects : List Rect) (i j : ℕ) (a b : Rect) → i < j → j < length rects → a ≡ get_or rects i a
    → b ≡ get_or rects j b → AllPairs AreApart (map corners_of rects) → AreApart (corners_of a) (corners_of b)
apart_at rects i j a b h l e f all =
    let r = all i j (corners_of a) h (rw (length-map rects corners_of) l) in
    rw (corners_in rects i a (corners_of a) (omega arith), corners_in rects j b (corners_of a) l, ← e, ← f) at r
