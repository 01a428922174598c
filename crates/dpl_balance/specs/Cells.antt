-- How many cells a set of cells has.
use Rattle.std.specs.Prelude.{◌≡◌, ◌↔◌, ℕ, ℤ, List, length, Any, AllPairs, Contains}
use Rattle.dpl_cell.specs.Places.{Corners}
use Rattle.dpl_cell.specs.Cells.{IsIn}

-- the cell lies in at least one of the rectangles
abbrev pub HoldCell : List Corners → ℤ → ℤ → Type 0
HoldCell rects x y = Any (λ r. IsIn r x y) rects

-- the set has n cells: they can be listed, each of them once
pub record HasCells (set : ℤ → ℤ → Type 0) (n : ℕ) : Type 0 where
  pub cells : List (ℤ × ℤ)
  pub each : (x y : ℤ) → set x y ↔ Contains cells (x, y)
  pub once : AllPairs (λ p q. ¬ (p ≡ q)) cells
  pub count : length cells ≡ n
