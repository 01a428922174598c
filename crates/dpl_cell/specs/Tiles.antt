-- Runs and tiles of a set of cells, which is given by a test of one cell.
use Rattle.std.specs.Prelude.{◌≡◌, ◌⊎◌, Bool, List, ℤ, pos, ◌-ℤ◌, ◌<ℤ◌, ◌≤ℤ◌, IsTrue, All, AllPairs, Contains}
use Rattle.dpl_cell.specs.Places.{Corners}
use Rattle.dpl_cell.specs.Cells.{IsWithin, IsMaximal}

-- a maximal stretch of cells in one row
abbrev pub IsRun : (ℤ → ℤ → Bool) → ℤ → ℤ → ℤ → Type 0
IsRun cells x1 x2 y = IsMaximal (λ x. IsTrue (cells x y)) x1 x2

-- a maximal upright stack of a relation on stretches of one row
pub record IsStack (has : ℤ → ℤ → ℤ → Type 0) (r : Corners) : Type 0 where
  pub high : r.y1 <ℤ r.y2
  pub rows : (y : ℤ) → IsWithin r.y1 r.y2 y → has r.x1 r.x2 y
  pub below : ¬ has r.x1 r.x2 (r.y1 -ℤ pos 1)
  pub above : ¬ has r.x1 r.x2 r.y2

-- a tile is a maximal upright stack of equal runs
abbrev pub IsTile : (ℤ → ℤ → Bool) → Corners → Type 0
IsTile cells = IsStack (IsRun cells)

-- a stands before b: lower, or at one height and further left
abbrev pub IsBefore : Corners → Corners → Type 0
IsBefore a b = (a.y1 <ℤ b.y1) ⊎ ((a.y1 ≡ b.y1) × (a.x1 <ℤ b.x1))

-- b does not stand before a
abbrev pub IsNotAfter : Corners → Corners → Type 0
IsNotAfter a b = (a.y1 <ℤ b.y1) ⊎ ((a.y1 ≡ b.y1) × (a.x1 ≤ℤ b.x1))

-- all tiles of the cells, each once, in order
pub record AreTiles (cells : ℤ → ℤ → Bool) (tiles : List Corners) : Type 0 where
  pub each : All (IsTile cells) tiles
  pub all : (r : Corners) → IsTile cells r → Contains tiles r
  pub ordered : AllPairs IsBefore tiles
