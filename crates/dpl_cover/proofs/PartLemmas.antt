-- Stretches of columns whose places are counted.
use Rattle.std.proofs.Common.{arith, refl, ◌≡◌, ◌∙◌, ◌⊎◌, inl, inr, ap, sym, subst, ℕ, zero, suc, ◌+◌, ◌-◌, ◌<◌, ◌≤◌, ℤ, ◌≤ℤ◌, ◌<ℤ◌, List, Bool, true}
use Rattle.std.proofs.Common.{false, ◌||◌, true≢false, [], length}
use Rattle.std.proofs.lemmas.Bool.{cases_lt}
use Rattle.dpl_list.proofs.Integers.{signed}
use Rattle.dpl_cell.specs.declared.stretch.Stretch.{Stretch}
use Rattle.dpl_cell.specs.Layers.{is_within}
use Rattle.dpl_cell.specs.Stretches.{is_in_stretches}
use Rattle.dpl_cell.proofs.BoxLemmas.{within_test, test_within}
use Rattle.dpl_cover.specs.declared.blocks.Block.{Block}
use Rattle.dpl_cover.specs.Columns.{AreRising, IsAt, column_at}
use Rattle.dpl_cover.specs.Counts.{is_counted}
use Rattle.dpl_cover.specs.Parts.{HasCounted}

left_or_from : (x y : ℤ) → (x <ℤ y) ⊎ (y ≤ℤ x)
left_or_from x y = search signed

pub not_left : (columns : List ℤ) (i j : ℕ) → AreRising columns → i ≤ j → j < length columns → column_at columns i ≤ℤ column_at columns j
not_left columns i j up l h = elim (cases_lt i j) [
  | inl s ↦ let r = up i j s h in omega (signed, r)
  | inr s ↦ let e : i ≡ j = omega (arith, l, s) in subst (λ k. column_at columns i ≤ℤ column_at columns k) e (omega signed)
]

-- the place of a column between those of two places
pub record IsPlaceOf (columns : List ℤ) (a b : ℕ) (x : ℤ) : Type 0 where
  pub place : ℕ
  pub from : a ≤ place
  pub below : place < b
  pub is_at : IsAt columns place x

pub place_between : (columns : List ℤ) (a b : ℕ) (x : ℤ) → a ≤ b → b < length columns
    → column_at columns a ≤ℤ x → x <ℤ column_at columns b → IsPlaceOf columns a b x
place_between columns a zero x l w from to = let e : a ≡ zero = omega (arith, l) in
    absurd (backwards _ _ (subst (λ k. column_at columns k ≤ℤ x) e from) to)
  where
    backwards : (y z : ℤ) → y ≤ℤ z → z <ℤ y → ⊥
    backwards y z h i = omega (signed, h, i)
place_between columns a (suc n) x l w from to = elim (cases_lt n a) [
  | inl h ↦ let e : a ≡ suc n = omega (arith, l, h) in absurd (backwards _ _ (subst (λ k. column_at columns k ≤ℤ x) e from) to)
  | inr h ↦ elim (left_or_from x (column_at columns n)) [
    | inl s ↦ let r = place_between columns a n x h (omega (arith, w)) from s in
        record { place = r.place; from = r.from; below = omega (arith, r.below); is_at = r.is_at }
    | inr s ↦ let e : n + 1 ≡ suc n = omega arith in
        record { place = n; from = h; below = omega arith; is_at = record { within = omega (arith, w); from = s; to = rw e to } }
  ]
]
  where
    backwards : (y z : ℤ) → y ≤ℤ z → z <ℤ y → ⊥
    backwards y z h i = omega (signed, h, i)

-- no place before the first that is looked at has a column from `from` on
pub none_before : (columns : List ℤ) (from : ℤ) (at : ℕ) → AreRising columns
    → (at ≡ 0) ⊎ ((at < length columns) × (column_at columns at ≤ℤ from)) → (x : ℤ) (k : ℕ) → from ≤ℤ x
    → k < at → IsAt columns k x → ⊥
none_before columns from at up (inl e) x k l h i = omega (arith, e, h)
none_before columns from at up (inr s) x k l h i =
    let n = not_left columns (k + 1) at up (omega (arith, h)) s.0 in let t = i.to in omega (signed, n, t, l, s.1)

-- a part whose places are all counted was added
pub sound_more : (columns each : List ℤ) (blocks : List Block) (old new : List Stretch) (a b : ℕ) → a < b
    → b < length columns → ((k : ℕ) → a ≤ k → k < b → is_counted each blocks k ≡ true)
    → ((x : ℤ) → is_in_stretches new x ≡ (is_in_stretches old x || is_within (column_at columns a) (column_at columns b) x))
    → ((x : ℤ) → is_in_stretches old x ≡ true → HasCounted columns each blocks x) → (x : ℤ)
    → is_in_stretches new x ≡ true → HasCounted columns each blocks x
sound_more columns each blocks old new a b order within all added sound x h = by_old (is_in_stretches old x) refl where
  by_part : is_within (column_at columns a) (column_at columns b) x ≡ true → HasCounted columns each blocks x
  by_part t = let w = test_within (column_at columns a) (column_at columns b) x t in
      let p = place_between columns a b x (omega (arith, order)) within w.from w.to in
      record { place = p.place; is_at = p.is_at; counted = all p.place p.from p.below }

  by_old : (t : Bool) → is_in_stretches old x ≡ t → HasCounted columns each blocks x
  by_old true e = sound x e
  by_old false e = by_part (ap (λ t. t || is_within (column_at columns a) (column_at columns b) x) (sym e) ∙ sym (added x) ∙ h)

pub full_more : (columns each : List ℤ) (blocks : List Block) (old new : List Stretch) (from : ℤ) (a b : ℕ)
    → AreRising columns → b < length columns
    → ((x : ℤ) → is_in_stretches new x ≡ (is_in_stretches old x || is_within (column_at columns a) (column_at columns b) x))
    → ((x : ℤ) (k : ℕ) → from ≤ℤ x → k < a → IsAt columns k x → is_counted each blocks k ≡ true → is_in_stretches old x ≡ true)
    → (x : ℤ) (k : ℕ) → from ≤ℤ x → k < b → IsAt columns k x → is_counted each blocks k ≡ true
    → is_in_stretches new x ≡ true
full_more columns each blocks old new from a b up within added full x k l h i c = elim (cases_lt k a) [
  | inl s ↦ added x ∙ ap (λ t. t || is_within (column_at columns a) (column_at columns b) x) (full x k l s i c)
  | inr s ↦
      let left = not_left columns a k up s (omega (arith, i.within)) in let right = not_left columns (k + 1) b up (omega (arith, h)) within in
      let low = i.from in let high = i.to in
      added x ∙ ap (λ t. is_in_stretches old x || t) (within_test (column_at columns a) (column_at columns b) x
      (record { from = omega (signed, left, low); to = omega (signed, high, right) })) ∙ or_true (is_in_stretches old x)
]
  where
    or_true : (t : Bool) → (t || true) ≡ true
    or_true true = refl
    or_true false = refl

-- none of the places of a part is counted
pub full_past : (columns each : List ℤ) (blocks : List Block) (parts : List Stretch) (from : ℤ) (a b : ℕ) (counted : Bool)
    → counted ≡ false → ((k : ℕ) → a ≤ k → k < b → is_counted each blocks k ≡ counted)
    → ((x : ℤ) (k : ℕ) → from ≤ℤ x → k < a → IsAt columns k x → is_counted each blocks k ≡ true → is_in_stretches parts x ≡ true)
    → (x : ℤ) (k : ℕ) → from ≤ℤ x → k < b → IsAt columns k x → is_counted each blocks k ≡ true
    → is_in_stretches parts x ≡ true
full_past columns each blocks parts from a b counted n all full x k l h i c = elim (cases_lt k a) [
  | inl s ↦ full x k l s i c
  | inr s ↦ absurd (true≢false (sym c ∙ all k s h ∙ n))
]

-- a part that is counted ends before the last column
pub ends_before : (each : List ℤ) (blocks : List Block) (n a b : ℕ) (counted : Bool) → counted ≡ true → a < b
    → b ≤ n → ((k : ℕ) → a ≤ k → k < b → is_counted each blocks k ≡ counted)
    → ((k : ℕ) → k + 1 ≡ n → is_counted each blocks k ≡ false) → b < n
ends_before each blocks n a b counted t order within all last = elim (cases_lt b n) [
  | inl h ↦ h
  | inr h ↦ absurd (true≢false (sym t ∙ sym (all (b - 1) (omega (arith, order)) (omega (arith, order))) ∙ last (b - 1) (omega (arith, order, h, within))))
]

-- all places were looked at, or the next column is not left of `to`
pub all_looked_at : (columns : List ℤ) (to : ℤ) (at : ℕ) → AreRising columns
    → (at < length columns → to ≤ℤ column_at columns at) → (x : ℤ) (k : ℕ) → x <ℤ to → IsAt columns k x
    → k < at
all_looked_at columns to at up stop x k l i = elim (cases_lt k at) [
  | inl h ↦ h
  | inr h ↦
      let within : at < length columns = omega (arith, h, i.within) in
      let s = stop within in let n = not_left columns at k up h (omega (arith, i.within)) in let f = i.from in
      absurd (omega (signed, s, n, f, l))
]

pub no_parts : (parts : List Stretch) (x : ℤ) → parts ≡ [] → is_in_stretches parts x ≡ true → ⊥
no_parts parts x e h = true≢false (sym (rw e at h))
