-- What stands around a rectangle of a shape: what is near of other shapes, and what it touches.
use Rattle.std.specs.Prelude.{◌≢◌, ℕ, ◌<◌, List, All, Contains, length, slice_index_or}
use Rattle.dpl_near.specs.Near.{Search, IsNear}
use Rattle.dpl_cell.specs.Places.{Corners}
use Rattle.dpl_cell.specs.Cells.{IsIn}
use Rattle.dpl_cell.specs.Gaps.{AreClose}

-- rectangles with the numbers of their shapes, and how near is looked
pub record Shaped : Type 0 where
  pub rects : List Corners
  pub shape : List ℕ
  pub reach : ℕ

-- a search for all rectangles within some reach
abbrev pub within : Shaped → ℕ → Search
within s reach = record { rects = s.rects; reach = reach }

-- numbers of other rectangles within the reach, among them all of other shapes, and all that are no distance away
pub record AreAround (s : Shaped) (i : ℕ) (found : List ℕ) : Type 0 where
  pub each : All (IsNear (within s s.reach) i) found
  pub others : (j : ℕ) → IsNear (within s s.reach) i j →
      slice_index_or s.shape j 0 ≢ slice_index_or s.shape i 0 → Contains found j
  pub touching : (j : ℕ) → IsNear (within s s.reach) i j → IsNear (within s 1) i j → Contains found j

-- numbers of rectangles, among them all of these
pub record MayBeAround (s : Shaped) (i : ℕ) (found : List ℕ) : Type 0 where
  pub each : All (λ j. j < length s.rects) found
  pub others : (j : ℕ) → IsNear (within s s.reach) i j →
      slice_index_or s.shape j 0 ≢ slice_index_or s.shape i 0 → Contains found j
  pub touching : (j : ℕ) → IsNear (within s s.reach) i j → IsNear (within s 1) i j → Contains found j

-- numbers of rectangles, among them all of other shapes that are closer to one of a shape than a reach
pub record HasOthers (s : Shaped) (reach : ℕ) (one : Corners) (own : ℕ) (found : List ℕ) : Type 0 where
  pub each : All (λ j. j < length s.rects) found
  pub all : (j : ℕ) → j < length s.rects → slice_index_or s.shape j 0 ≢ own →
      ((d : Corners) → AreClose (IsIn one) (IsIn (slice_index_or s.rects j d)) reach) → Contains found j
