-- A row whose corners are passed from the left in clusters. No two clusters touch: a stack that is not near the first begins before the second.
use Rattle.std.specs.Prelude.{◌≡◌, ◌⊎◌, ℕ, ◌≤◌, ◌<◌, ℤ, pos, ◌-ℤ◌, ◌<ℤ◌, ◌≤ℤ◌, List, Bool, All, Any, ◌++◌, length, slice_index_or, if◌then◌else◌, int_lt}
use Rattle.dpl_cell.specs.declared.rect.Rect.{Rect}
use Rattle.dpl_tiles.specs.declared.corners.Corner.{Corner}
use Rattle.dpl_list.specs.Order.{Ascends}
use Rattle.dpl_tiles.specs.declared.sweep.Sweep.{Sweep}
use Rattle.dpl_tiles.specs.Sweeps.{AreSwept, IsSameStack, IsStep}
use Rattle.dpl_stacks.specs.Stacks.{stacks_of}
use Rattle.dpl_tiles.specs.Windows.{IsOutside}

-- in each row the cells of this row left of the column, and from there on those of the row below it
abbrev pub passed : (ℤ → ℤ → Bool) → ℤ → ℤ → ℤ → Bool
passed cells c x y = cells x (if int_lt x c then y else y -ℤ pos 1)

-- the corners of row z from the left; outside their columns it has the cells of the row below it
pub record AreChanges (cells : ℤ → ℤ → Bool) (z : ℤ) (row : List Corner) : Type 0 where
  pub ordered : Ascends (λ c. c.left) row
  pub same : (x : ℤ) → All (λ c. IsOutside c.left c.right x) row → cells x (z -ℤ pos 1) ≡ cells x z

-- the corners from one place up to another have columns from d1 to d2, and the next one begins right of these and of all stacks near them
pub record IsCluster (row : List Corner) (at to : ℕ) (d1 d2 : ℤ) (near : List Rect) : Type 0 where
  pub more : at < to
  pub within : to ≤ length row
  pub left : (d : Corner) → (slice_index_or row at d).left ≡ d1
  pub right : (k : ℕ) (d : Corner) → at ≤ k → k < to → (slice_index_or row k d).right ≤ℤ d2
  pub apart : (d : Corner) → to < length row →
      (d2 <ℤ (slice_index_or row to d).left) × All (λ r. r.x2 <ℤ (slice_index_or row to d).left) near

-- what becomes of the stacks at row z as far as column c: all that ends or begins there lies left of it, and no stack stands across it
pub record IsStepUpTo (cells : ℤ → ℤ → Bool) (z c : ℤ) (held closed now : List Rect) : Type 0 where
  pub step : IsStep (passed cells c) z held closed now
  pub left : All (λ r. r.x2 ≤ℤ c) closed
  pub apart : All (λ r. (r.x2 ≤ℤ c) ⊎ ((c <ℤ r.x1) × Any (λ o. IsSameStack o r) held)) now

-- row z is passed up to the corner at a place: there are such stacks and tiles from below it, and such a column
pub record IsPassed (cells : ℤ → ℤ → Bool) (z : ℤ) (row : List Corner) (at : ℕ) (ended now : List Rect) : Type 0 where
  pub before : List Rect
  pub held : List Rect
  pub closed : List Rect
  pub column : ℤ
  pub swept : AreSwept cells z before held
  pub added : ended ≡ before ++ closed
  pub behind : (k : ℕ) (d : Corner) → k < at → k < length row → (slice_index_or row k d).right ≤ℤ column
  pub ahead : (k : ℕ) (d : Corner) → at ≤ k → k < length row → column <ℤ (slice_index_or row k d).left
  pub step : IsStepUpTo cells z column held closed now

-- a sweep that has passed row z up to the corner at a place
abbrev pub HasPassed : (ℤ → ℤ → Bool) → ℤ → List Corner → ℕ → Sweep → Type 0
HasPassed cells z row at s = IsPassed cells z row at s.ended.items (stacks_of s.stacks)
