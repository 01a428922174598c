-- What the counts say of the row that was reached.
use Rattle.std.proofs.Common.{arith, refl, ◌≡◌, ◌∙◌, ◌⊎◌, inl, inr, ap, sym, ℕ, zero, suc, ◌+◌, ◌<◌, ◌≤◌, ℤ, pos, neg_ℤ, ◌+ℤ◌, ◌≤ℤ◌, ◌<ℤ◌, List, Bool}
use Rattle.std.proofs.Common.{true, false, true≢false, not, ◌&&◌, ◌||◌, int_le, int_lt, length, get_or, take, All, Any, Contains, ◌∷◌, []}
use Rattle.std.specs.Prelude.{if◌then◌else◌, sum_by}
use Rattle.std.specs.List.{list_any}
use Rattle.std.proofs.lemmas.Int.{ints}
use Rattle.std.proofs.lemmas.List.{get_or_default}
use Rattle.std.proofs.lemmas.List.Folds.{Any-from_list_any}
use Rattle.std.proofs.lemmas.List.Sorted.{sum_by-IsPermutation}
use Rattle.std.proofs.lemmas.List.Sums.{sum_by-cons}
use Rattle.std.proofs.lemmas.Bool.{cases_lt}
use Rattle.dpl_list.proofs.Integers.{signed, less_test, is_at_most, at_most_test}
use Rattle.dpl_cell.specs.declared.rect.Rect.{Rect}
use Rattle.dpl_cell.specs.Places.{corners_of}
use Rattle.dpl_cell.specs.Cells.{IsWithin}
use Rattle.dpl_cell.specs.Layers.{is_in_box, is_within}
use Rattle.dpl_cell.proofs.BoxLemmas.{within_test, test_within}
use Rattle.dpl_cover.specs.declared.cover.Cover.{Cover}
use Rattle.dpl_cover.specs.Columns.{AreRising, HasEnds, IsAt, column_at}
use Rattle.dpl_cover.specs.Counts.{count_at, is_counted}
use Rattle.dpl_cover.specs.Parts.{HasCounted}
use Rattle.dpl_cover.specs.Tallies.{having}
use Rattle.dpl_cover.specs.Covers.{IsCover, IsPassed, is_covered}
use Rattle.dpl_cover.proofs.TallyLemmas.{times_one, times_less}
use Rattle.dpl_cover.proofs.PartLemmas.{not_left, place_between}

-- ---- sums over boxes up to a row

-- the number where the key is up to the row, and nothing elsewhere
abbrev up_to : (Rect → ℤ) → ℤ → (Rect → ℕ) → Rect → ℕ
up_to key row f r = if int_le (key r) row then f r else 0

more_test : (a b : ℤ) → b <ℤ a → int_le a b ≡ false
more_test a b h = grind (arith, ints)

sum_two : (m n : ℕ) → m ≡ 0 → n ≡ 0 → m + n ≡ 0
sum_two m n a b = omega arith

none_up_to : (key : Rect → ℤ) (row : ℤ) (f : Rect → ℕ) (boxes : List Rect)
    → ((k : ℕ) (d : Rect) → k < length boxes → row <ℤ key (get_or boxes k d))
    → sum_by (up_to key row f) boxes ≡ 0
none_up_to key row f [] h = refl
none_up_to key row f (r ∷ rs) h =
    let e = none_up_to key row f rs (λ k d l. h (suc k) d (omega (arith, l))) in
    let z : up_to key row f r ≡ 0 = rw (more_test (key r) row (h 0 r (omega arith))) refl in
    sum_by-cons (up_to key row f) r rs ∙ sum_two _ _ z e

tail_passed : (key : Rect → ℤ) (row : ℤ) (r : Rect) (rs : List Rect) (n : ℕ) → IsPassed key row (r ∷ rs) (suc n) → IsPassed key row rs n
tail_passed key row r rs n p = record {
  within = let w = p.within in omega (arith, w);
  up_to = λ k d h. p.up_to (suc k) d (omega (arith, h));
  beyond = λ k d h l. p.beyond (suc k) d (omega (arith, h)) (omega (arith, l));
}

sum_passed : (key : Rect → ℤ) (row : ℤ) (f : Rect → ℕ) (boxes : List Rect) (n : ℕ) → IsPassed key row boxes n
    → sum_by f (take n boxes) ≡ sum_by (up_to key row f) boxes
sum_passed key row f [] zero p = refl
sum_passed key row f [] (suc n) p = refl
sum_passed key row f (r ∷ rs) zero p = sym (none_up_to key row f (r ∷ rs) (λ k d l. p.beyond k d (omega arith) l))
sum_passed key row f (r ∷ rs) (suc n) p =
    let e = sum_passed key row f rs n (tail_passed key row r rs n p) in
    let z : up_to key row f r ≡ f r = rw (at_most_test (key r) row (p.up_to 0 r (omega arith))) refl in
    let a = sum_by-cons f r (take n rs) in let b = sum_by-cons (up_to key row f) r rs in omega (arith, a, b, z, e)

sum_parts : (f g h : Rect → ℕ) → ((r : Rect) → f r ≡ g r + h r) → (boxes : List Rect) → sum_by f boxes ≡ sum_by g boxes + sum_by h boxes
sum_parts f g h each [] = refl
sum_parts f g h each (r ∷ rs) = let e = sum_parts f g h each rs in let d = each r in
    let a = sum_by-cons f r rs in let b = sum_by-cons g r rs in let c = sum_by-cons h r rs in omega (arith, e, d, a, b, c)

bits : (a b w : Bool) → (b ≡ true → a ≡ true)
    → (if a then (if w then 1 else 0) else 0) ≡ (if b then (if w then 1 else 0) else 0) + (if w && (a && not b) then 1 else 0)
bits true true true h = refl
bits true true false h = refl
bits true false true h = refl
bits true false false h = refl
bits false true w h = absurd (true≢false (sym (h refl)))
bits false false true h = refl
bits false false false h = refl

in_row : (r : Rect) (x row : ℤ) → (if int_le r.y1 row then (if is_within r.x1 r.x2 x then 1 else 0) else 0) ≡
    (if int_le r.y2 row then (if is_within r.x1 r.x2 x then 1 else 0) else 0) + (if is_in_box (corners_of r) x row then 1 else 0)
in_row r x row =
    let e : int_lt row r.y2 ≡ not (int_le r.y2 row) = less_is r.y2 in
    rw e (bits (int_le r.y1 row) (int_le r.y2 row) (is_within r.x1 r.x2 x) (λ h. at_most_test r.y1 row (lower h)))
  where
    less_is : (z : ℤ) → int_lt row z ≡ not (int_le z row)
    less_is z = grind (arith, ints)

    at_most : (a b : ℤ) → int_le a b ≡ true → a ≤ℤ b
    at_most a b e = grind (arith, ints)

    lower : int_le r.y2 row ≡ true → r.y1 ≤ℤ row
    lower h = let t = is_at_most r.y2 row h in let s = r.high in omega (signed, t, s)

any_more : (p : Rect → Bool) (r : Rect) (rs : List Rect) (t : Bool) → p r ≡ t
    → int_lt (pos 0) (pos (sum_by (λ r. if p r then 1 else 0) rs)) ≡ list_any p rs
    → int_lt (pos 0) (pos (sum_by (λ r. if p r then 1 else 0) (r ∷ rs))) ≡ (p r || list_any p rs)
any_more p r rs true e h =
    let a : sum_by (λ r. if p r then 1 else 0) (r ∷ rs) ≡ 1 + sum_by (λ r. if p r then 1 else 0) rs =
    sum_by-cons (λ r. if p r then 1 else 0) r rs ∙ ap (λ t. (if t then 1 else 0) + sum_by (λ r. if p r then 1 else 0) rs) e in
    rw (a, e) (less_test (pos 0) (pos (1 + sum_by (λ r. if p r then 1 else 0) rs)) (omega signed))
any_more p r rs false e h =
    let a : sum_by (λ r. if p r then 1 else 0) (r ∷ rs) ≡ 0 + sum_by (λ r. if p r then 1 else 0) rs =
    sum_by-cons (λ r. if p r then 1 else 0) r rs ∙ ap (λ t. (if t then 1 else 0) + sum_by (λ r. if p r then 1 else 0) rs) e in
    let b : sum_by (λ r. if p r then 1 else 0) (r ∷ rs) ≡ sum_by (λ r. if p r then 1 else 0) rs = omega (arith, a) in
    rw (b, e) h

any_counted : (p : Rect → Bool) (boxes : List Rect) → int_lt (pos 0) (pos (sum_by (λ r. if p r then 1 else 0) boxes)) ≡ list_any p boxes
any_counted p [] = refl
any_counted p (r ∷ rs) = any_more p r rs (p r) refl (any_counted p rs)

-- ---- the counts

pub place_counted : (c : Cover) → IsCover c → (k : ℕ) → k < length c.columns.items
    → is_counted c.each.items c.blocks.items k ≡ is_covered c (column_at c.columns.items k)
place_counted c s k l =
    let x = column_at c.columns.items k in
    let has : Rect → ℕ = λ r. if is_within r.x1 r.x2 (column_at c.columns.items k) then 1 else 0 in
    let up : having (column_at c.columns.items k) (take c.began c.begins.items) ≡ sum_by (up_to (λ r. r.y1) c.row has) c.begins.items =
    sum_passed (λ r. r.y1) c.row has c.begins.items c.began s.begun in
    let down : having (column_at c.columns.items k) (take c.ended c.ends.items) ≡ sum_by (up_to (λ r. r.y2) c.row has) c.begins.items =
    sum_passed (λ r. r.y2) c.row has c.ends.items c.ended s.closed ∙
    sum_by-IsPermutation (up_to (λ r. r.y2) c.row has) c.begins.items c.ends.items s.same in
    let both : sum_by (up_to (λ r. r.y1) c.row has) c.begins.items ≡ sum_by (up_to (λ r. r.y2) c.row has) c.begins.items
    + sum_by (λ r. if is_in_box (corners_of r) (column_at c.columns.items k) c.row then 1 else 0) c.begins.items =
    sum_parts _ _ _ (λ r. in_row r (column_at c.columns.items k) c.row) c.begins.items in
    let a = times_one (having (column_at c.columns.items k) (take c.began c.begins.items)) in
    let b = times_less (having (column_at c.columns.items k) (take c.ended c.ends.items)) in
    let d = s.counted.same k l in
    let is : count_at c.each.items c.blocks.items k ≡
    pos (sum_by (λ r. if is_in_box (corners_of r) (column_at c.columns.items k) c.row then 1 else 0) c.begins.items) =
    difference _ _ _ _ _ _ d a b (up ∙ both) down in
    ap (λ z. int_lt (pos 0) z) is ∙ any_counted (λ r. is_in_box (corners_of r) (column_at c.columns.items k) c.row) c.begins.items
  where
    difference : (z t u : ℤ) (m n h : ℕ) → z ≡ t +ℤ u → t ≡ pos m → u ≡ neg_ℤ (pos n) → {o : ℕ} → m ≡ o + h → n ≡ o → z ≡ pos h
    difference z t u m n h d a b {o} e f = omega (signed, d, a, b, e, f)

-- ---- the columns of one place

same_columns : (columns : List ℤ) (r : Rect) (k : ℕ) (x : ℤ) → AreRising columns → HasEnds columns r
    → IsAt columns k x → is_within r.x1 r.x2 x ≡ is_within r.x1 r.x2 (column_at columns k)
same_columns columns r k x up e i = by (is_within r.x1 r.x2 x) (is_within r.x1 r.x2 (column_at columns k)) refl refl where
  left_or_from : (x y : ℤ) → (x <ℤ y) ⊎ (y ≤ℤ x)
  left_or_from x y = search signed

  -- an end is no further right than the place's column, or no further left than the next
  beside : (z : ℤ) → Contains columns z → (z ≤ℤ column_at columns k) ⊎ (column_at columns (k + 1) ≤ℤ z)
  beside z (j, l, is) =
      let at : column_at columns j ≡ z = get_or_default columns j (pos 0) z l ∙ is in
      elim (cases_lt k j) [
        | inl h ↦ inr (let n = not_left columns (k + 1) j up (omega (arith, h)) l in rw at at n)
        | inr h ↦ inl (let n = not_left columns j k up h (omega (arith, i.within)) in rw at at n)
      ]

  there : IsWithin r.x1 r.x2 x → IsWithin r.x1 r.x2 (column_at columns k)
  there w = record {
    from = elim (beside r.x1 e.left) [
      | inl h ↦ h
      | inr h ↦ let f = w.from in let t = i.to in absurd (omega (signed, h, f, t))
    ];
    to = let f = i.from in let t = w.to in omega (signed, f, t);
  }

  back : IsWithin r.x1 r.x2 (column_at columns k) → IsWithin r.x1 r.x2 x
  back w = record {
    from = let f = i.from in let t = w.from in omega (signed, f, t);
    to = elim (beside r.x2 e.right) [
      | inl h ↦ let t = w.to in absurd (omega (signed, h, t))
      | inr h ↦ let t = i.to in omega (signed, h, t)
    ];
  }

  by : (s t : Bool) → is_within r.x1 r.x2 x ≡ s → is_within r.x1 r.x2 (column_at columns k) ≡ t
      → is_within r.x1 r.x2 x ≡ is_within r.x1 r.x2 (column_at columns k)
  by true t p q = p ∙ sym (within_test r.x1 r.x2 (column_at columns k) (there (test_within r.x1 r.x2 x p)))
  by false true p q = within_test r.x1 r.x2 x (back (test_within r.x1 r.x2 (column_at columns k) q)) ∙ sym q
  by false false p q = p ∙ sym q

any_alike : (p q : Rect → Bool) (boxes : List Rect) → All (λ r. p r ≡ q r) boxes → list_any p boxes ≡ list_any q boxes
any_alike p q [] h = refl
any_alike p q (r ∷ rs) h =
    rw (h 0 r (omega arith), any_alike p q rs (λ k d l. h (suc k) d (omega (arith, l)))) refl

pub covered_alike : (c : Cover) → IsCover c → (k : ℕ) (x : ℤ) → IsAt c.columns.items k x → is_covered c x ≡ is_covered c (column_at c.columns.items k)
covered_alike c s k x i = any_alike (λ r. is_in_box (corners_of r) x c.row) (λ r. is_in_box (corners_of r) (column_at c.columns.items k) c.row)
    c.begins.items (λ n d l. ap (λ t. t && is_within (get_or c.begins.items n d).y1 (get_or c.begins.items n d).y2 c.row)
    (same_columns c.columns.items (get_or c.begins.items n d) k x s.columns.rising (s.columns.all n d l) i))

pub counted_covers : (c : Cover) → IsCover c → (x : ℤ) → HasCounted c.columns.items c.each.items c.blocks.items x → is_covered c x ≡ true
counted_covers c s x h = covered_alike c s h.place x h.is_at ∙
    sym (place_counted c s h.place (let w = h.is_at.within in omega (arith, w))) ∙ h.counted

pub covered_counts : (c : Cover) → IsCover c → (x : ℤ) → is_covered c x ≡ true → HasCounted c.columns.items c.each.items c.blocks.items x
covered_counts c s x h = found (Any-from_list_any (λ r. is_in_box (corners_of r) x c.row) c.begins.items h) where
  both : (a b : Bool) → (a && b) ≡ true → a ≡ true
  both true b e = refl
  both false b e = e

  found : Any (λ r. is_in_box (corners_of r) x c.row ≡ true) c.begins.items → HasCounted c.columns.items c.each.items c.blocks.items x
  found (n, d, l, is, e) =
      let w = test_within d.x1 d.x2 x (both _ _ e) in
      let ends : HasEnds c.columns.items d = rw is at (s.columns.all n d l) in
      between ends.left ends.right w
    where
      between : Contains c.columns.items d.x1 → Contains c.columns.items d.x2 → IsWithin d.x1 d.x2 x →
          HasCounted c.columns.items c.each.items c.blocks.items x
      between (i, a, p) (j, b, q) w =
          let left : column_at c.columns.items i ≡ d.x1 = get_or_default c.columns.items i (pos 0) d.x1 a ∙ p in
          let right : column_at c.columns.items j ≡ d.x2 = get_or_default c.columns.items j (pos 0) d.x2 b ∙ q in
          let from = w.from in let to = w.to in
          let order : i ≤ j = elim (cases_lt j i) [
            | inl h ↦ let u = s.columns.rising j i h a in absurd (omega (signed, u, left, right, from, to))
            | inr h ↦ h
          ] in
          let place = place_between c.columns.items i j x order b (omega (signed, left, from)) (omega (signed, right, to)) in
          record {
            place = place.place;
            is_at = place.is_at;
            counted = place_counted c s place.place (omega (arith, place.below, b)) ∙ sym (covered_alike c s place.place x place.is_at) ∙ h;
          }

none_has : (p : Rect → Bool) (boxes : List Rect) → ((k : ℕ) (d : Rect) → k < length boxes → p (get_or boxes k d) ≡ false) → list_any p boxes ≡ false
none_has p [] h = refl
none_has p (r ∷ rs) h = rw (h 0 r (omega arith), none_has p rs (λ k d l. h (suc k) d (omega (arith, l)))) refl

pub last_uncounted : (c : Cover) → IsCover c → (k : ℕ) → k + 1 ≡ length c.columns.items → is_counted c.each.items c.blocks.items k ≡ false
last_uncounted c s k l = place_counted c s k (omega (arith, l)) ∙
    none_has (λ r. is_in_box (corners_of r) (column_at c.columns.items k) c.row) c.begins.items
    (λ n d h. outside (get_or c.begins.items n d) (s.columns.all n d h))
  where
    past : (r : Rect) → Contains c.columns.items r.x2 → r.x2 ≤ℤ column_at c.columns.items k
    past r (j, b, q) =
        let right : column_at c.columns.items j ≡ r.x2 = get_or_default c.columns.items j (pos 0) r.x2 b ∙ q in
        let u = not_left c.columns.items j k s.columns.rising (omega (arith, b, l)) (omega (arith, l)) in omega (signed, right, u)

    beyond : (a b x : ℤ) → b ≤ℤ x → is_within a b x ≡ false
    beyond a b x h = no_within (is_within a b x) refl where
      no_within : (t : Bool) → is_within a b x ≡ t → is_within a b x ≡ false
      no_within true e = let w = test_within a b x e in let t = w.to in absurd (omega (signed, h, t))
      no_within false e = e

    outside : (r : Rect) → HasEnds c.columns.items r → is_in_box (corners_of r) (column_at c.columns.items k) c.row ≡ false
    outside r e = ap (λ t. t && is_within r.y1 r.y2 c.row) (beyond r.x1 r.x2 (column_at c.columns.items k) (past r e.right))
