-- Edges that cells share.
use Rattle.std.specs.Prelude.{◌≡◌, ◌+◌, ◌⊎◌, ℤ, ◌-ℤ◌}
use Rattle.std.specs.Int.RustNames.{unsigned_abs}
use Rattle.dpl_cell.specs.Cells.{SharesCell}
use Rattle.dpl_cell.specs.Gaps.{CellPair}

-- the two cells have an edge in common
abbrev pub AreNeighbours : ℤ → ℤ → ℤ → ℤ → Type 0
AreNeighbours x y x' y' = unsigned_abs (x -ℤ x') + unsigned_abs (y -ℤ y') ≡ 1

-- a cell of one set and a cell of the other have an edge in common
pub record SharesEdge (one other : ℤ → ℤ → Type 0) : Type 0 where
  pub x : ℤ
  pub y : ℤ
  pub x' : ℤ
  pub y' : ℤ
  pub cells : CellPair one other x y x' y'
  pub neighbours : AreNeighbours x y x' y'

-- the sets have a cell or an edge in common; a corner is not enough
abbrev pub Touch : (ℤ → ℤ → Type 0) → (ℤ → ℤ → Type 0) → Type 0
Touch one other = SharesCell one other ⊎ SharesEdge one other
