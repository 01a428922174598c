-- Cells: a cell is a unit square of the grid, named by its lower left corner. A set of cells is given by
-- what it says of a cell.
use Rattle.std.specs.Prelude.{ℤ, pos, ◌-ℤ◌, ◌≤ℤ◌, ◌<ℤ◌}
use Rattle.dpl_cell.specs.Places.{Corners}

-- x is in the stretch from a to b, b left out
pub record IsWithin (a b x : ℤ) : Type 0 where
  pub from : a ≤ℤ x
  pub to : x <ℤ b

-- a maximal stretch of places with a property
pub record IsMaximal (has : ℤ → Type 0) (a b : ℤ) : Type 0 where
  pub long : a <ℤ b
  pub full : (p : ℤ) → IsWithin a b p → has p
  pub left : ¬ has (a -ℤ pos 1)
  pub right : ¬ has b

-- the cell (x, y) lies in the rectangle
pub record IsIn (r : Corners) (x y : ℤ) : Type 0 where
  pub column : IsWithin r.x1 r.x2 x
  pub row : IsWithin r.y1 r.y2 y

-- some cell is in both sets
pub record SharesCell (one other : ℤ → ℤ → Type 0) : Type 0 where
  pub x : ℤ
  pub y : ℤ
  pub first : one x y
  pub second : other x y

-- no cell is in both rectangles
abbrev pub AreApart : Corners → Corners → Type 0
AreApart a b = ¬ SharesCell (IsIn a) (IsIn b)
