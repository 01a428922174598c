-- Stacks of equal runs in a sweep from the bottom to the top, which touches only the stacks that change. A stack that goes on is kept with its columns and its lowest row; its top is the row that is reached.
use Rattle.std.specs.Prelude.{◌≡◌, ◌⊎◌, ℤ, pos, ◌-ℤ◌, ◌<ℤ◌, ◌≤ℤ◌, List, Bool, All, Any, AllPairs}
use Rattle.dpl_cell.specs.declared.rect.Rect.{Rect}
use Rattle.dpl_cell.specs.Cells.{IsWithin}
use Rattle.dpl_cell.specs.Tiles.{IsRun}
use Rattle.dpl_tiles.specs.declared.sweep.Sweep.{Sweep}
use Rattle.dpl_tiles.specs.Bands.{HasColumns}
use Rattle.dpl_stacks.specs.Stacks.{IsLeftOf, stacks_of}
use Rattle.dpl_tiles.specs.Stacks.{IsPieceAt, AreEnded}

-- a stack of runs up to row z, which is left out; it may go on
pub record IsHeld (cells : ℤ → ℤ → Bool) (z : ℤ) (r : Rect) : Type 0 where
  pub start : r.y1 <ℤ z
  pub rows : (y : ℤ) → IsWithin r.y1 z y → IsRun cells r.x1 r.x2 y
  pub below : ¬ IsRun cells r.x1 r.x2 (r.y1 -ℤ pos 1)

-- the stacks that reach row z, from the left
pub record AreHeld (cells : ℤ → ℤ → Bool) (z : ℤ) (held : List Rect) : Type 0 where
  pub each : All (IsHeld cells z) held
  pub all : (x1 x2 : ℤ) → IsRun cells x1 x2 (z -ℤ pos 1) → Any (HasColumns x1 x2) held
  pub ordered : AllPairs IsLeftOf held

-- the stack has these columns and begins at row y or below it
pub record HoldsRun (x1 x2 y : ℤ) (r : Rect) : Type 0 where
  pub columns : HasColumns x1 x2 r
  pub from : r.y1 ≤ℤ y

-- all runs below row z lie in tiles that ended and stacks that reach it
pub record AreSwept (cells : ℤ → ℤ → Bool) (z : ℤ) (ended held : List Rect) : Type 0 where
  pub done : AreEnded cells z ended
  pub going : AreHeld cells z held
  pub whole : (x1 x2 y : ℤ) → y <ℤ z → IsRun cells x1 x2 y →
      Any (IsPieceAt x1 x2 y) ended ⊎ Any (HoldsRun x1 x2 y) held

-- a sweep over all runs below row z
abbrev pub HasReached : (ℤ → ℤ → Bool) → ℤ → Sweep → Type 0
HasReached cells z s = AreSwept cells z s.ended.items (stacks_of s.stacks)

-- the second is the first stack, perhaps with another top
pub record IsSameStack (o r : Rect) : Type 0 where
  pub columns : HasColumns o.x1 o.x2 r
  pub bottom : r.y1 ≡ o.y1

-- a stack that begins in row z
pub record IsNew (held : List Rect) (z : ℤ) (r : Rect) : Type 0 where
  pub bottom : r.y1 ≡ z
  pub none : ¬ Any (HasColumns r.x1 r.x2) held

-- what becomes of the stacks at row z: those with a run there are kept, those without one are closed, and each other run begins one
pub record IsStep (cells : ℤ → ℤ → Bool) (z : ℤ) (held closed next : List Rect) : Type 0 where
  pub each : All (λ r. IsRun cells r.x1 r.x2 z ×
      (Any (λ o. IsSameStack o r) held ⊎ IsNew held z r)) next
  pub all : (x1 x2 : ℤ) → IsRun cells x1 x2 z → Any (HasColumns x1 x2) next
  pub ordered : AllPairs IsLeftOf next
  pub ends : All (λ r. (¬ IsRun cells r.x1 r.x2 z) × (r.y2 ≡ z) ×
      Any (λ o. IsSameStack o r) held) closed
  pub gone : All (λ o. (¬ IsRun cells o.x1 o.x2 z) → Any (IsSameStack o) closed) held
  pub kept : All (λ o. IsRun cells o.x1 o.x2 z → Any (IsSameStack o) next) held
  pub rising : AllPairs (λ a b. a.x1 <ℤ b.x1) closed
