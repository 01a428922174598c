-- Rectangles that are looked up by their columns.
use Rattle.std.proofs.Common.{arith, ◌≡◌, ℕ, ◌+◌, ◌<◌, ℤ, ◌<ℤ◌, List, length, get_or, ◌∙◌, AllPairs, Any, refl, sym, ap}
use Rattle.std.proofs.Common.{inl, inr, false, Ordering, Less, Equal, Greater}
use Rattle.std.specs.Ordering.{int_cmp, is_lt, MatchOrdering, ordering_index}
use Rattle.std.specs.Cmp.{int_ranks}
use Rattle.std.specs.List.Sorted.{IsSortedBy, IsPartitionPoint, IsNonDecreasingBy}
use Rattle.std.proofs.lemmas.Cmp.{int_cmp_total}
use Rattle.std.proofs.lemmas.Bool.{cases_lt}
use Rattle.std.proofs.lemmas.List.{get_or_default}
use Rattle.std.proofs.lemmas.List.Sorted.{searchable_from_sorted}
use Rattle.dpl_cell.specs.declared.rect.Rect.{Rect}
use Rattle.dpl_tiles.specs.Bands.{HasColumns}
use Rattle.dpl_stacks.specs.Stacks.{IsLeftOf}
use Rattle.dpl_list.proofs.Integers.{signed}
use Rattle.dpl_list.proofs.OrderLemmas.{less_by_order, greater_by_order}
use Rattle.dpl_cell.proofs.BoxLemmas.{three}

not_less : (a b : ℤ) (r : Ordering) → MatchOrdering r (b <ℤ a) (b ≡ a) (a <ℤ b) → a <ℤ b → is_lt r ≡ false
not_less a b Less m h = absurd (omega signed)
not_less a b Equal m h = refl
not_less a b Greater m h = refl

by_left : (rects : List Rect) → AllPairs IsLeftOf rects → IsSortedBy (λ a b. is_lt (int_cmp a.x1 b.x1)) rects
by_left rects up k d low high =
    let p = get_or rects k d in let q = get_or rects (k + 1) d in
    let h : p.x2 <ℤ q.x1 = up k (k + 1) d (omega arith) high in
    not_less p.x1 q.x1 _ (int_ranks q.x1 p.x1) (wide p q h) where
      wide : (p q : Rect) → p.x2 <ℤ q.x1 → p.x1 <ℤ q.x1
      wide p q h = let w = p.wide in omega signed

pub rising : (rects : List Rect) (x : ℤ) → AllPairs IsLeftOf rects → IsNonDecreasingBy (λ r. ordering_index (int_cmp r.x1 x)) rects
rising rects x up = searchable_from_sorted int_cmp_total (λ (r : Rect). r.x1) rects x (by_left rects up)

-- none begins where the search found no place
pub none_begins : (rects : List Rect) (x1 x2 : ℤ) (i : ℕ)
    → IsPartitionPoint (λ r. int_cmp r.x1 x1 ≡ Less) (λ r. int_cmp r.x1 x1 ≡ Greater) rects i
    → ¬ Any (HasColumns x1 x2) rects
none_begins rects x1 x2 i parted (k, r, within, e, c) = elim (cases_lt k i) [
  | inl l ↦ let h : int_cmp r.x1 x1 ≡ Less = rw e at (parted.0 k r (omega arith) l) in let g = less_by_order r.x1 x1 h in let f = c.left in omega signed
  | inr l ↦ let h : int_cmp r.x1 x1 ≡ Greater = rw e at (parted.1 k r l within) in let g = greater_by_order r.x1 x1 h in let f = c.left in omega signed
]

-- the one that begins there has other columns, so none has these
pub none_as_wide : (rects : List Rect) (x1 x2 : ℤ) (i : ℕ) (p : Rect) → AllPairs IsLeftOf rects
    → i < length rects → p ≡ get_or rects i p → p.x1 ≡ x1 → ¬ (p.x2 ≡ x2) → ¬ Any (HasColumns x1 x2) rects
none_as_wide rects x1 x2 i p up inside is begins wide (k, r, within, e, c) = three k i
    (λ l. let h : IsLeftOf (get_or rects k p) (get_or rects i p) = up k i p l inside in
    let h' : IsLeftOf r p = rw (get_or_default rects k p r within ∙ e, ← is) at h in apart r p (c.left ∙ sym begins) h')
    (λ l. let f : p ≡ r = is ∙ ap (λ n. get_or rects n p) (sym l) ∙ get_or_default rects k p r within ∙ e in wide (ap (λ (r : Rect). r.x2) f ∙ c.right))
    (λ l. let h : IsLeftOf (get_or rects i p) (get_or rects k p) = up i k p l within in
    let h' : IsLeftOf p r = rw (get_or_default rects k p r within ∙ e, ← is) at h in apart p r (begins ∙ sym c.left) h') where
      apart : (a b : Rect) → a.x1 ≡ b.x1 → IsLeftOf a b → ⊥
      apart a b e h = let w = a.wide in omega signed
