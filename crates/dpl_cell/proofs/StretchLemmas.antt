-- Places of stretches; and stretches that lie separate are the maximal ones of what they hold.
use Rattle.std.proofs.Common.{arith, ◌≡◌, ℕ, ◌<◌, ℤ, pos, ◌-ℤ◌, ◌<ℤ◌, ◌≤ℤ◌, List, length, get_or, ◌∙◌, Any, sym, ap, ◌∷◌, [], ◌++◌, false, true, ◌||◌}
use Rattle.std.proofs.lemmas.Int.{ints, by_lt_z}
use Rattle.std.proofs.lemmas.List.{get_or_default}
use Rattle.std.proofs.lemmas.List.Folds.{list_any-append, list_any_at, Any-from_list_any}
use Rattle.std.proofs.Math.Bool.{or-false}
use Rattle.dpl_list.proofs.Integers.{signed}
use Rattle.dpl_cell.specs.declared.stretch.Stretch.{Stretch}
use Rattle.dpl_cell.specs.Cells.{IsWithin, IsMaximal}
use Rattle.dpl_cell.specs.Layers.{is_within}
use Rattle.dpl_cell.specs.Stretches.{is_in_stretches, AreSeparate}
use Rattle.dpl_cell.proofs.BoxLemmas.{test_within, within_test, three, equal_z, at_start}

-- a stretch whose end is not above its start holds nothing
pub within_none : (a b p : ℤ) → b ≤ℤ a → is_within a b p ≡ false
within_none a b p h = grind (arith, ints)

-- stretches with one more hold what they held, and what the new one holds
pub in_pushed : (parts : List Stretch) (s : Stretch) (p : ℤ) → is_in_stretches (parts ++ s ∷ []) p ≡ (is_in_stretches parts p || is_within s.from s.to p)
in_pushed parts s p = list_any-append (λ s. is_within s.from s.to p) parts (s ∷ []) ∙
    ap (λ b. is_in_stretches parts p || b) (or-false (is_within s.from s.to p))

-- ---- maximal stretches that share a place are one

same_from : (has : ℤ → Type 0) (a b c d p : ℤ) → IsMaximal has a b → IsMaximal has c d → IsWithin a b p → IsWithin c d p → c ≤ℤ a
same_from has a b c d p r s w v = by_lt_z a c (λ h. absurd (s.left (r.full _ (inside a b c d p w v h)))) (λ h. h) where
  inside : (a b c d p : ℤ) → IsWithin a b p → IsWithin c d p → a <ℤ c → IsWithin a b (c -ℤ pos 1)
  inside a b c d p w v h = let k = w.to in let l = v.from in record { from = omega signed; to = omega signed }

same_to : (has : ℤ → Type 0) (a b c d p : ℤ) → IsMaximal has a b → IsMaximal has c d → IsWithin a b p → IsWithin c d p → b ≤ℤ d
same_to has a b c d p r s w v = by_lt_z d b (λ h. absurd (s.right (r.full d (inside a b c d p w v h)))) (λ h. h) where
  inside : (a b c d p : ℤ) → IsWithin a b p → IsWithin c d p → d <ℤ b → IsWithin a b d
  inside a b c d p w v h = let k = w.from in let l = v.to in record { from = omega signed; to = h }

-- maximal stretches with a place in common are the same
pub one_maximal : (has : ℤ → Type 0) (a b c d p : ℤ) → IsMaximal has a b → IsMaximal has c d → IsWithin a b p → IsWithin c d p → (a ≡ c) × (b ≡ d)
one_maximal has a b c d p r s w v = (
  equal_z a c (same_from has c d a b p s r v w) (same_from has a b c d p r s w v),
  equal_z b d (same_to has a b c d p r s w v) (same_to has c d a b p s r v w),
)

-- ---- stretches that lie separate are the maximal ones

-- the stretches hold exactly the places with a property, and lie separate
pub record Covers (has : ℤ → Type 0) (ss : List Stretch) : Type 0 where
  pub separate : AreSeparate ss
  pub all : (p : ℤ) → has p → is_in_stretches ss p ≡ true
  pub only : (p : ℤ) → is_in_stretches ss p ≡ true → has p

place : (ss : List Stretch) (p : ℤ) → is_in_stretches ss p ≡ true → Any (λ s. IsWithin s.from s.to p) ss
place ss p h = let (k, s, l, e, t) = Any-from_list_any (λ s. is_within s.from s.to p) ss h in (k, s, l, e, test_within _ _ p t)

-- each of separate stretches that cover a property is a maximal stretch of it
pub stretch_at : (has : ℤ → Type 0) (ss : List Stretch) → Covers has ss → (k : ℕ) (d : Stretch)
    → k < length ss → IsMaximal has (get_or ss k d).from (get_or ss k d).to
stretch_at has ss row k d l = record {
  long = (get_or ss k d).wide;
  full = λ x w. row.only x (list_any_at (λ s. is_within s.from s.to x) ss k d l (within_test _ _ x w));
  left = λ h. let (m, t, n, e, w) = place ss _ (row.all _ h) in three m k
      (λ g. let a : t.to <ℤ (get_or ss k d).from = rw (get_or_default ss m d t n ∙ e) at (row.separate m k d g l) in before _ _ _ a w)
      (λ g. let f : t ≡ get_or ss k d = sym e ∙ ap (λ i. get_or ss i t) g ∙ get_or_default ss k t d l in itself _ _ (rw f at w))
      (λ g. let a : (get_or ss k d).to <ℤ t.from = rw (get_or_default ss m d t n ∙ e) at (row.separate k m d g n) in behind _ _ _ _ (get_or ss k d).wide a w);
  right = λ h. let (m, t, n, e, w) = place ss _ (row.all _ h) in three m k
      (λ g. let a : t.to <ℤ (get_or ss k d).from = rw (get_or_default ss m d t n ∙ e) at (row.separate m k d g l) in before' _ _ _ _ (get_or ss k d).wide a w)
      (λ g. let f : t ≡ get_or ss k d = sym e ∙ ap (λ i. get_or ss i t) g ∙ get_or_default ss k t d l in itself' _ _ (rw f at w))
      (λ g. let a : (get_or ss k d).to <ℤ t.from = rw (get_or_default ss m d t n ∙ e) at (row.separate k m d g n) in behind' _ _ _ a w);
} where
  before : (a b c : ℤ) → b <ℤ c → IsWithin a b (c -ℤ pos 1) → ⊥
  before a b c h w = omega signed

  itself : (a b : ℤ) → IsWithin a b (a -ℤ pos 1) → ⊥
  itself a b w = omega signed

  behind : (a b c d : ℤ) → a <ℤ b → b <ℤ c → IsWithin c d (a -ℤ pos 1) → ⊥
  behind a b c d f h w = omega signed

  before' : (a b c d : ℤ) → c <ℤ d → b <ℤ c → IsWithin a b d → ⊥
  before' a b c d f h w = omega signed

  itself' : (a b : ℤ) → IsWithin a b b → ⊥
  itself' a b w = omega signed

  behind' : (b c d : ℤ) → b <ℤ c → IsWithin c d b → ⊥
  behind' b c d h w = omega signed

-- each maximal stretch of a property is among the separate stretches that cover it
pub stretch_among : (has : ℤ → Type 0) (ss : List Stretch) → Covers has ss → (a b : ℤ) → IsMaximal has a b → Any (λ s. (s.from ≡ a) × (s.to ≡ b)) ss
stretch_among has ss row a b run =
    let start = at_start a b run.long in
    let (k, s, l, e, w) = place ss a (row.all a (run.full a start)) in
    let own : IsMaximal has s.from s.to = rw e at (stretch_at has ss row k s l) in
    (k, s, l, e, one_maximal has s.from s.to a b a own run w start)
