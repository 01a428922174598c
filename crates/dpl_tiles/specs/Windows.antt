-- A row that differs from the row below it in some columns alone.
use Rattle.std.specs.Prelude.{◌≡◌, ◌⊎◌, ℤ, ◌<ℤ◌, ◌≤ℤ◌, ◌&&◌, ◌++◌, List, Bool, true, All, Any, AllPairs, int_le}
use Rattle.std.specs.List.{AllZip}
use Rattle.dpl_cell.specs.declared.rect.Rect.{Rect}
use Rattle.dpl_cell.specs.Tiles.{IsRun}
use Rattle.dpl_cell.specs.declared.stretch.Stretch.{Stretch}
use Rattle.dpl_tiles.specs.Bands.{HasColumns}
use Rattle.dpl_stacks.specs.Stacks.{IsLeftOf}
use Rattle.dpl_cell.specs.Cells.{IsWithin}
use Rattle.dpl_cell.specs.Places.{Corners}
use Rattle.dpl_cell.specs.Layers.{is_within}

-- the column lies outside the columns from d1 to d2, d2 left out
abbrev pub IsOutside : ℤ → ℤ → ℤ → Type 0
IsOutside d1 d2 x = (x <ℤ d1) ⊎ (d2 ≤ℤ x)

-- row z has the same cells before and after outside these columns
abbrev pub IsChange : (ℤ → ℤ → Bool) → (ℤ → ℤ → Bool) → ℤ → ℤ → ℤ → Type 0
IsChange old new z d1 d2 = (x : ℤ) → IsOutside d1 d2 x → old x z ≡ new x z

-- columns from x1 to x2 neither meet the columns from d1 to d2 nor end or begin right beside them
abbrev pub IsFar : ℤ → ℤ → ℤ → ℤ → Type 0
IsFar d1 d2 x1 x2 = (x2 <ℤ d1) ⊎ (d2 <ℤ x1)

-- the runs of row z that are not far from the columns that change, from the left
pub record AreNearRuns (cells : ℤ → ℤ → Bool) (z d1 d2 : ℤ) (runs : List Rect) : Type 0 where
  pub each : All (λ p. IsRun cells p.x1 p.x2 z × (¬ IsFar d1 d2 p.x1 p.x2)) runs
  pub all : (x1 x2 : ℤ) → IsRun cells x1 x2 z → ¬ IsFar d1 d2 x1 x2 → Any (HasColumns x1 x2) runs
  pub ordered : AllPairs IsLeftOf runs

-- the stack of a run: the one that goes on with it, or a new one that begins at row z
pub record IsContinued (near : List Rect) (z : ℤ) (run r : Rect) : Type 0 where
  pub columns : HasColumns run.x1 run.x2 r
  pub bottom : Any (λ o. HasColumns run.x1 run.x2 o × (r.y1 ≡ o.y1)) near ⊎
      ((¬ Any (HasColumns run.x1 run.x2) near) × (r.y1 ≡ z))

-- the stack, closed at row z
pub record IsClosed (z : ℤ) (o r : Rect) : Type 0 where
  pub columns : HasColumns o.x1 o.x2 r
  pub bottom : r.y1 ≡ o.y1
  pub top : r.y2 ≡ z

-- the list grew by these stacks, closed at row z
pub record AddsClosed (z : ℤ) (ending old new : List Rect) : Type 0 where
  pub closed : List Rect
  pub each : AllZip (IsClosed z) ending closed
  pub added : new ≡ old ++ closed

-- the stretch is not far from the columns from d1 to d2
abbrev pub is_near : ℤ → ℤ → Stretch → Bool
is_near d1 d2 s = int_le d1 s.to && int_le s.from d2

-- the rectangle has the columns from a to b
abbrev pub has_columns : Corners → ℤ → ℤ → Bool
has_columns r a b = int_le r.x1 a && int_le b r.x2

-- column x is in the stretch, and one of those from a to b, b left out
abbrev pub is_shared : Stretch → ℤ → ℤ → ℤ → Bool
is_shared s a b x = is_within s.from s.to x && is_within a b x

-- the stretch holds the columns from a to b, and outside those from d1 to d2 its columns are cells of row z
pub record IsStill (cells : ℤ → ℤ → Bool) (z d1 d2 a b : ℤ) (s : Stretch) : Type 0 where
  pub left : s.from ≤ℤ a
  pub right : b ≤ℤ s.to
  pub same : (x : ℤ) → IsWithin s.from s.to x → IsOutside d1 d2 x → cells x z ≡ true
