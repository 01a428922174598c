-- What is near a rectangle.
use Rattle.std.proofs.Common.{◌≡◌, ◌≢◌, ℕ, ◌<◌, length, get_or}
use Rattle.std.proofs.lemmas.List.{get_or_default}
use Rattle.dpl_cell.specs.Places.{Corners}
use Rattle.dpl_cell.specs.Cells.{IsIn}
use Rattle.dpl_cell.specs.Gaps.{AreClose}
use Rattle.dpl_near.specs.Near.{Search, IsNear}

close_at : (s : Search) (i j : ℕ) (a b : Corners) → i < length s.rects → j < length s.rects
    → a ≡ get_or s.rects i a → b ≡ get_or s.rects j b → AreClose (IsIn a) (IsIn b) s.reach → (d : Corners)
    → AreClose (IsIn (get_or s.rects i d)) (IsIn (get_or s.rects j d)) s.reach
close_at s i j a b l m e f close d = rw (get_or_default s.rects i d a l, ← e, get_or_default s.rects j d b m, ← f) close

pub near_yes : (s : Search) (i j : ℕ) (a b : Corners) → i < length s.rects → j < length s.rects
    → a ≡ get_or s.rects i a → b ≡ get_or s.rects j b → j ≢ i → AreClose (IsIn a) (IsIn b) s.reach
    → IsNear s i j
near_yes s i j a b l m e f n close = record { within = m; other = n; close = close_at s i j a b l m e f close }

pub near_no : (s : Search) (i j : ℕ) (a b : Corners) → i < length s.rects → j < length s.rects
    → a ≡ get_or s.rects i a → b ≡ get_or s.rects j b → ¬ AreClose (IsIn a) (IsIn b) s.reach → ¬ IsNear s i j
near_no s i j a b l m e f none near = none (rw (get_or_default s.rects i a a l, ← e, get_or_default s.rects j a b m, ← f) at (near.close a))

pub near_itself : (s : Search) (i j : ℕ) → j ≡ i → ¬ IsNear s i j
near_itself s i j e near = near.other e
