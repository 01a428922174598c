-- One step of a sweep.
use Rattle.std.proofs.Common.{arith, ◌≡◌, ◌⊎◌, ℕ, ◌<◌, ℤ, ◌<ℤ◌, ◌≤ℤ◌, List, length, get_or, Any, sym, ◌∙◌, inl, inr, ◌++◌, Bool}
use Rattle.std.proofs.lemmas.Int.{by_lt_z}
use Rattle.std.proofs.lemmas.List.Elements.{All-append}
use Rattle.dpl_cell.specs.declared.rect.Rect.{Rect}
use Rattle.dpl_cell.specs.Places.{corners_of}
use Rattle.dpl_cell.specs.Cells.{IsWithin}
use Rattle.dpl_cell.specs.Tiles.{IsRun, IsTile}
use Rattle.dpl_tiles.specs.Bands.{AreAlike, HasColumns}
use Rattle.dpl_tiles.specs.Stacks.{IsPieceAt, EndsBefore, AreEnded}
use Rattle.dpl_tiles.specs.Sweeps.{IsHeld, AreHeld, HoldsRun, AreSwept, IsSameStack, IsNew, IsStep}
use Rattle.dpl_list.proofs.Integers.{signed}
use Rattle.dpl_list.proofs.Lists.{any_left, any_right, all_pairs_append}
use Rattle.dpl_tiles.proofs.StackLemmas.{up, down, last_row}
use Rattle.dpl_tiles.proofs.UnionLemmas.{run_or_not}

-- ---- the stacks that go on

held_same : (cells : ℤ → ℤ → Bool) (low high : ℤ) (o r : Rect) → AreAlike cells low high → IsHeld cells low o
    → IsSameStack o r → IsRun cells r.x1 r.x2 low → IsHeld cells high r
held_same cells low high o r a h s run = record {
  start = first o.y1 r.y1 low high h.start s.bottom a.some;
  rows = λ y w. by_lt_z y low
      (λ g. rw (s.columns.left, s.columns.right) (h.rows y (under o.y1 r.y1 low high y w s.bottom g)))
      (λ g. up cells low high y r.x1 r.x2 a (record { from = g; to = w.to }) run);
  below = rw (s.columns.left, s.columns.right, s.bottom) h.below;
} where
  first : (o r low high : ℤ) → o <ℤ low → r ≡ o → low <ℤ high → r <ℤ high
  first o r low high h e g = omega signed

  under : (o r low high y : ℤ) → IsWithin r high y → r ≡ o → y <ℤ low → IsWithin o low y
  under o r low high y w e g = record { from = let f = w.from in omega signed; to = g }

held_new : (cells : ℤ → ℤ → Bool) (low high : ℤ) (held : List Rect) (r : Rect) → AreAlike cells low high
    → AreHeld cells low held → IsNew held low r → IsRun cells r.x1 r.x2 low → IsHeld cells high r
held_new cells low high held r a h n run = record {
  start = let e = n.bottom in let s = a.some in first r.y1 low high e s;
  rows = λ y w. up cells low high y r.x1 r.x2 a (record { from = level r.y1 low high y w n.bottom; to = w.to }) run;
  below = λ was. n.none (h.all r.x1 r.x2 (rw n.bottom at was));
} where
  first : (r low high : ℤ) → r ≡ low → low <ℤ high → r <ℤ high
  first r low high e g = omega signed

  level : (r low high y : ℤ) → IsWithin r high y → r ≡ low → low ≤ℤ y
  level r low high y w e = let f = w.from in omega signed

held_one : (cells : ℤ → ℤ → Bool) (low high : ℤ) (held : List Rect) (r : Rect) → AreAlike cells low high
    → AreHeld cells low held → IsRun cells r.x1 r.x2 low → Any (λ o. IsSameStack o r) held ⊎ IsNew held low r
    → IsHeld cells high r
held_one cells low high held r a h run (inl (k, o, l, e, s)) = held_same cells low high o r a (rw e at (h.each k o l)) s run
held_one cells low high held r a h run (inr n) = held_new cells low high held r a h n run

step_held : (cells : ℤ → ℤ → Bool) (low high : ℤ) (held closed next : List Rect) → AreAlike cells low high
    → AreHeld cells low held → IsStep cells low held closed next → AreHeld cells high next
step_held cells low high held closed next a h s = record {
  each = λ k d l. let e = s.each k d l in held_one cells low high held (get_or next k d) a h (e.0) (e.1);
  all = λ x1 x2 run. s.all x1 x2 (down cells low high _ x1 x2 a (last_row low high a.some) run);
  ordered = s.ordered;
}

-- ---- the stacks that end

closed_tile : (cells : ℤ → ℤ → Bool) (low : ℤ) (o r : Rect) → IsHeld cells low o → IsSameStack o r
    → r.y2 ≡ low → ¬ IsRun cells r.x1 r.x2 low → IsTile cells (corners_of r)
closed_tile cells low o r h s top none = record {
  high = r.high;
  rows = λ y w. rw (s.columns.left, s.columns.right) (h.rows y (within o.y1 r.y1 r.y2 low y w s.bottom top));
  below = rw (s.columns.left, s.columns.right, s.bottom) h.below;
  above = λ run. none (rw top at run);
} where
  within : (o r t low y : ℤ) → IsWithin r t y → r ≡ o → t ≡ low → IsWithin o low y
  within o r t low y w e f = record { from = let g = w.from in omega signed; to = let g = w.to in omega signed }

step_ended : (cells : ℤ → ℤ → Bool) (low high : ℤ) (ended held closed next : List Rect) → low <ℤ high
    → AreEnded cells low ended → AreHeld cells low held → IsStep cells low held closed next
    → AreEnded cells high (ended ++ closed)
step_ended cells low high ended held closed next up done h s = record {
  each = All-append (λ r. IsTile cells (corners_of r)) ended closed done.each (λ k d l. tile (get_or closed k d) (s.ends k d l));
  below = All-append (λ r. r.y2 <ℤ high) ended closed (λ k d l. lower _ low high (done.below k d l) up) (λ k d l. reached _ low high ((s.ends k d l).1) up);
  ordered = all_pairs_append EndsBefore ended closed done.ordered
      (λ i j d f l. inr (level _ _ low ((s.ends i d (omega arith)).1) ((s.ends j d l).1), s.rising i j d f l))
      (λ i j d f l. inl (before _ _ low (done.below i d f) ((s.ends j d l).1)));
} where
  tile : (r : Rect) → (¬ IsRun cells r.x1 r.x2 low) × (r.y2 ≡ low) × Any (λ o. IsSameStack o r) held → IsTile cells (corners_of r)
  tile r (none, top, (k, o, l, e, t)) = closed_tile cells low o r (rw e at (h.each k o l)) t top none

  lower : (a low high : ℤ) → a <ℤ low → low <ℤ high → a <ℤ high
  lower a low high f h = omega signed

  reached : (a low high : ℤ) → a ≡ low → low <ℤ high → a <ℤ high
  reached a low high f h = omega signed

  level : (a b c : ℤ) → a ≡ c → b ≡ c → a ≡ b
  level a b c e f = e ∙ sym f

  before : (a b c : ℤ) → a <ℤ c → b ≡ c → a <ℤ b
  before a b c h e = omega signed

-- ---- all runs

pub swept_more : (cells : ℤ → ℤ → Bool) (low high : ℤ) (ended held closed next : List Rect)
    → AreAlike cells low high → AreSwept cells low ended held → IsStep cells low held closed next
    → AreSwept cells high (ended ++ closed) next
swept_more cells low high ended held closed next a s t = record {
  done = step_ended cells low high ended held closed next a.some s.done s.going t;
  going = step_held cells low high held closed next a s.going t;
  whole = λ x1 x2 y h run. by_lt_z y low
      (λ f. elim (s.whole x1 x2 y f run) [
        | inl e ↦ inl (any_left (IsPieceAt x1 x2 y) ended closed e)
        | inr (k, o, l, e, at) ↦ old x1 x2 y f k o l e at
      ])
      (λ f. inr (fresh x1 x2 y (record { from = f; to = h }) run));
} where
  old : (x1 x2 y : ℤ) → y <ℤ low → (k : ℕ) (o : Rect) → k < length held → get_or held k o ≡ o → HoldsRun x1 x2 y o →
      Any (IsPieceAt x1 x2 y) (ended ++ closed) ⊎ Any (HoldsRun x1 x2 y) next
  old x1 x2 y f k o l e at = go (run_or_not cells o.x1 o.x2 low o.wide) where
    go : IsRun cells o.x1 o.x2 low ⊎ ¬ IsRun cells o.x1 o.x2 low → Any (IsPieceAt x1 x2 y) (ended ++ closed) ⊎ Any (HoldsRun x1 x2 y) next
    go (inl run) = on (rw e at (t.kept k o l) run) where
      on : Any (IsSameStack o) next → Any (IsPieceAt x1 x2 y) (ended ++ closed) ⊎ Any (HoldsRun x1 x2 y) next
      on (m, r, n, g, same) = inr (
        m,
        r,
        n,
        g,
        record {
          columns =
              record { left = same.columns.left ∙ at.columns.left; right = same.columns.right ∙ at.columns.right };
          from =
              low_enough same.bottom at.from;
        },
      ) where
        low_enough : r.y1 ≡ o.y1 → o.y1 ≤ℤ y → r.y1 ≤ℤ y
        low_enough h i = omega signed
    go (inr none) = off (rw e at (t.gone k o l) none) where
      off : Any (IsSameStack o) closed → Any (IsPieceAt x1 x2 y) (ended ++ closed) ⊎ Any (HoldsRun x1 x2 y) next
      off (m, r, n, g, same) = inl (any_right (IsPieceAt x1 x2 y) ended closed (
        m,
        r,
        n,
        g,
        record {
          columns = record { left = same.columns.left ∙ at.columns.left; right = same.columns.right ∙ at.columns.right };
          row = inside (top m r n g) same.bottom at.from;
        },
      )) where
        top : (m : ℕ) (r : Rect) → m < length closed → get_or closed m r ≡ r → r.y2 ≡ low
        top m r n g = let p = (t.ends m r n).1 in rw g at p

        inside : r.y2 ≡ low → r.y1 ≡ o.y1 → o.y1 ≤ℤ y → IsWithin r.y1 r.y2 y
        inside h i j = record { from = omega signed; to = omega signed }

  fresh : (x1 x2 y : ℤ) → IsWithin low high y → IsRun cells x1 x2 y → Any (HoldsRun x1 x2 y) next
  fresh x1 x2 y w run = go (t.all x1 x2 (down cells low high y x1 x2 a w run)) where
    go : Any (HasColumns x1 x2) next → Any (HoldsRun x1 x2 y) next
    go (k, r, l, e, c) = (k, r, l, e, record { columns = c; from = from (rw e at (t.each k r l)) }) where
      from : IsRun cells r.x1 r.x2 low × (Any (λ o. IsSameStack o r) held ⊎ IsNew held low r) → r.y1 ≤ℤ y
      from (run', inl (m, o, n, g, same)) = let h : IsHeld cells low o = rw g at (s.going.each m o n) in let q = h.start
          in let b = same.bottom in let f = w.from in omega signed
      from (run', inr n) = let b = n.bottom in let f = w.from in omega signed
