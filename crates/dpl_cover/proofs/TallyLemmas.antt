-- How boxes are counted.
use Rattle.std.proofs.Common.{arith, refl, ◌≡◌, ◌∙◌, ◌⊎◌, inl, inr, ap, sym, subst, ℕ, zero, suc, ◌+◌, ◌<◌, ◌≤◌, ℤ, pos, neg_ℤ, ◌+ℤ◌, ◌≤ℤ◌, ◌<ℤ◌}
use Rattle.std.proofs.Common.{List, Bool, true, false, length, get_or, take, [], ◌++◌}
use Rattle.std.proofs.lemmas.List.{length-take-le, take_all, length-append}
use Rattle.std.proofs.lemmas.List.Sums.{sum_by_more, sum_by-append}
use Rattle.std.specs.Prelude.{if◌then◌else◌, sum_by}
use Rattle.std.proofs.lemmas.Bool.{cases_lt}
use Rattle.dpl_list.proofs.Integers.{signed}
use Rattle.dpl_cell.specs.declared.rect.Rect.{Rect}
use Rattle.dpl_cell.specs.Cells.{IsWithin}
use Rattle.dpl_cell.specs.Layers.{is_within}
use Rattle.dpl_cell.proofs.BoxLemmas.{within_test, test_within}
use Rattle.dpl_cover.specs.declared.blocks.Block.{Block}
use Rattle.dpl_cover.specs.Columns.{column_at}
use Rattle.dpl_cover.specs.Counts.{AreCounts, AreSmall, IsBeside, IsChange, IsUnit, count_at}
use Rattle.dpl_cover.specs.Tallies.{AreTallied, IsCountedMore, having, times}
use Rattle.dpl_cover.specs.Covers.{IsCounted}
use Rattle.dpl_cover.proofs.CountLemmas.{small_after, small_wider}

-- ---- a number several times

pub times_add : (by : ℤ) (m n : ℕ) → times by (m + n) ≡ times by m +ℤ times by n
times_add by zero n = let e : zero + n ≡ n = omega arith in rw e (omega signed)
times_add by (suc m) n = let s : suc m + n ≡ suc (m + n) = omega arith in let e = times_add by m n in rw s (omega (signed, e))

pub times_one : (n : ℕ) → times (pos 1) n ≡ pos n
times_one zero = refl
times_one (suc n) = let e = times_one n in omega (signed, e)

pub times_less : (n : ℕ) → times (neg_ℤ (pos 1)) n ≡ neg_ℤ (pos n)
times_less zero = refl
times_less (suc n) = let e = times_less n in omega (signed, e)

once : (by : ℤ) → times by 1 ≡ by
once by = omega signed

-- ---- the columns of a box

within_or_not : (a b x : ℤ) → IsWithin a b x ⊎ (¬ IsWithin a b x)
within_or_not a b x = search signed

not_within : (a b x : ℤ) → ¬ IsWithin a b x → is_within a b x ≡ false
not_within a b x n = by (is_within a b x) refl where
  by : (t : Bool) → is_within a b x ≡ t → is_within a b x ≡ false
  by true e = absurd (n (test_within a b x e))
  by false e = e

have_more : (x : ℤ) (boxes : List Rect) (i : ℕ) (r : Rect) → i < length boxes → r ≡ get_or boxes i r
    → having x (take (i + 1) boxes) ≡ having x (take i boxes) + (if is_within r.x1 r.x2 x then 1 else 0)
have_more x boxes i r within is =
    let f : Rect → ℕ = λ q. if is_within q.x1 q.x2 x then 1 else 0 in
    sum_by_more f boxes i r within ∙ ap (λ q. sum_by f (take i boxes) + f q) (sym is)

-- ---- one box

pub box_counted : (columns : List ℤ) (r : Rect) (by : ℤ) (a b : ℕ) (e0 : List ℤ) (b0 : List Block) (e1 : List ℤ) (b1 : List Block)
    → length e0 ≡ length columns → ((k : ℕ) → k < a → column_at columns k <ℤ r.x1)
    → ((k : ℕ) → a ≤ k → k < length columns → r.x1 ≤ℤ column_at columns k)
    → ((k : ℕ) → k < b → column_at columns k <ℤ r.x2)
    → ((k : ℕ) → b ≤ k → k < length columns → r.x2 ≤ℤ column_at columns k) → IsUnit by → IsChange a b by e0 b0 e1 b1
    → IsCountedMore columns r by e0 b0 e1 b1
box_counted columns r by a b e0 b0 e1 b1 long left from right to u g = record {
  counts = g.counts;
  long = g.long;
  inside = λ k l w. g.count.inside k (from_left k w) (up_to_right k (rw long at l) w);
  beside = λ k l n. g.count.beside k l (elim (place_or_beside a b k) [
    | inl i ↦ absurd (n (record { from = from k i.0 (rw long at l); to = right k i.1 }))
    | inr o ↦ o
  ]);
  grown = λ n s. small_after n a b by _ _ _ _ u g s;
}
  where
    place_or_beside : (a b k : ℕ) → ((a ≤ k) × (k < b)) ⊎ IsBeside a b k
    place_or_beside a b k = search arith

    from_left : (k : ℕ) → IsWithin r.x1 r.x2 (column_at columns k) → a ≤ k
    from_left k w = elim (cases_lt k a) [ inl h ↦ absurd (below _ _ (left k h) w.from) | inr h ↦ h ]
      where
        below : (x y : ℤ) → x <ℤ y → y ≤ℤ x → ⊥
        below x y h l = omega (signed, h, l)

    up_to_right : (k : ℕ) → k < length columns → IsWithin r.x1 r.x2 (column_at columns k) → k < b
    up_to_right k l w = elim (cases_lt k b) [ inl h ↦ h | inr h ↦ absurd (below _ _ w.to (to k h l)) ]
      where
        below : (x y : ℤ) → x <ℤ y → y ≤ℤ x → ⊥
        below x y h l = omega (signed, h, l)

-- a box that has no place
pub nothing_counted : (columns : List ℤ) (r : Rect) (by : ℤ) (a b : ℕ) (e : List ℤ) (bs : List Block)
    → length e ≡ length columns → b ≤ a → ((k : ℕ) → k < a → column_at columns k <ℤ r.x1)
    → ((k : ℕ) → b ≤ k → k < length columns → r.x2 ≤ℤ column_at columns k) → AreCounts e bs
    → IsCountedMore columns r by e bs e bs
nothing_counted columns r by a b e bs long order left to counts = record {
  counts = counts;
  long = refl;
  inside = λ k l w. absurd (elim (cases_lt k a) [
    | inl h ↦ below _ _ (left k h) w.from
    | inr h ↦ below _ _ w.to (to k (omega (arith, h, order)) (rw long at l))
  ]);
  beside = λ k l n. refl;
  grown = λ n s. small_wider n (n + 1) e bs (omega arith) s;
}
  where
    below : (x y : ℤ) → x <ℤ y → y ≤ℤ x → ⊥
    below x y h l = omega (signed, h, l)

-- ---- all boxes

pub none_tallied : (columns : List ℤ) (by : ℤ) (e : List ℤ) (bs : List Block) → AreCounts e bs → AreTallied columns by [] e bs e bs
none_tallied columns by e bs counts = record {
  counts = counts;
  long = refl;
  same = λ k l. omega signed;
  grown = λ n s. small_wider n (n + 0) e bs (omega arith) s;
}

pub tallied_more : (columns : List ℤ) (by : ℤ) (boxes : List Rect) (i : ℕ) (r : Rect) (e0 : List ℤ)
    → (b0 : List Block) (e1 : List ℤ) (b1 : List Block) (e2 : List ℤ) (b2 : List Block) → i < length boxes
    → r ≡ get_or boxes i r → AreTallied columns by (take i boxes) e0 b0 e1 b1
    → IsCountedMore columns r by e1 b1 e2 b2 → AreTallied columns by (take (i + 1) boxes) e0 b0 e2 b2
tallied_more columns by boxes i r e0 b0 e1 b1 e2 b2 within is t m = record {
  counts = m.counts;
  long = m.long ∙ t.long;
  same = λ k l. one_more k l (within_or_not r.x1 r.x2 (column_at columns k));
  grown = λ n s. subst (λ z. AreSmall z e2 b2) (longer n) (m.grown (n + length (take i boxes)) (t.grown n s));
}
  where
    longer : (n : ℕ) → n + length (take i boxes) + 1 ≡ n + length (take (i + 1) boxes)
    longer n = let a = length-take-le i boxes (omega (arith, within)) in let b = length-take-le (i + 1) boxes (omega (arith, within)) in omega (arith, a, b)

    one_more : (k : ℕ) → k < length e0 → IsWithin r.x1 r.x2 (column_at columns k) ⊎ (¬ IsWithin r.x1 r.x2 (column_at columns k)) →
        count_at e2 b2 k ≡ count_at e0 b0 k +ℤ times by (having (column_at columns k) (take (i + 1) boxes))
    one_more k l (inl w) =
        let h : having (column_at columns k) (take (i + 1) boxes) ≡ having (column_at columns k) (take i boxes) + 1 =
        rw (within_test r.x1 r.x2 (column_at columns k) w) at (have_more (column_at columns k) boxes i r within is) in
        let a = m.inside k (rw t.long l) w in let b = t.same k l in
        rw h (let c = times_add by (having (column_at columns k) (take i boxes)) 1 in let o = once by in omega (signed, a, b, c, o))
    one_more k l (inr n) =
        let h : having (column_at columns k) (take (i + 1) boxes) ≡ having (column_at columns k) (take i boxes) + 0 =
        rw (not_within r.x1 r.x2 (column_at columns k) n) at (have_more (column_at columns k) boxes i r within is) in
        let a = m.beside k (rw t.long l) n in let b = t.same k l in
        let e : having (column_at columns k) (take (i + 1) boxes) ≡ having (column_at columns k) (take i boxes) = omega (arith, h) in
        rw e (omega (signed, a, b))

pub all_tallied : (columns : List ℤ) (by : ℤ) (boxes : List Rect) (i : ℕ) (e0 : List ℤ) (b0 : List Block) (e1 : List ℤ) (b1 : List Block)
    → length boxes ≤ i → AreTallied columns by (take i boxes) e0 b0 e1 b1
    → AreTallied columns by boxes e0 b0 e1 b1
all_tallied columns by boxes i e0 b0 e1 b1 whole t = subst (λ (xs : List Rect). AreTallied columns by xs e0 b0 e1 b1) (take_all i boxes whole) t

-- ---- boxes that begin and boxes that end

pub both_counted : (columns : List ℤ) (up begun down closed : List Rect) (e0 : List ℤ) (b0 : List Block)
    → (e1 : List ℤ) (b1 : List Block) (e2 : List ℤ) (b2 : List Block)
    → AreTallied columns (pos 1) begun e0 b0 e1 b1 → AreTallied columns (neg_ℤ (pos 1)) closed e1 b1 e2 b2
    → IsCounted columns e0 b0 up down → IsCounted columns e2 b2 (up ++ begun) (down ++ closed)
both_counted columns up begun down closed e0 b0 e1 b1 e2 b2 s t c = record {
  counts = t.counts;
  long = t.long ∙ s.long ∙ c.long;
  same = λ k l.
      let x = column_at columns k in
      let a = s.same k (rw c.long l) in let b = t.same k (rw (s.long, c.long) l) in let d = c.same k l in
      rw (having_both up begun k, having_both down closed k)
      (let p = times_add (pos 1) (having (column_at columns k) up) (having (column_at columns k) begun) in
      let q = times_add (neg_ℤ (pos 1)) (having (column_at columns k) down) (having (column_at columns k) closed) in
      omega (signed, a, b, d, p, q));
  small = subst (λ z. AreSmall z e2 b2) sizes
      (t.grown (length up + length down + length begun) (s.grown (length up + length down) c.small));
}
  where
    having_both : (xs ys : List Rect) (k : ℕ) → having (column_at columns k) (xs ++ ys) ≡
        having (column_at columns k) xs + having (column_at columns k) ys
    having_both xs ys k = sum_by-append (λ q. if is_within q.x1 q.x2 (column_at columns k) then 1 else 0) xs ys

    sizes : length up + length down + length begun + length closed ≡ length (up ++ begun) + length (down ++ closed)
    sizes = let a = length-append up begun in let b = length-append down closed in omega (arith, a, b)
