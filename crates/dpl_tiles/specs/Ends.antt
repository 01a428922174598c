-- The ends of a polygon's sides.
use Rattle.std.specs.Prelude.{◌≡◌, ◌⊎◌, ℕ, ◌+◌, ◌%◌, ℤ, ◌<ℤ◌, ◌≤ℤ◌, ◌&&◌, List, sum_by, int_le, if◌then◌else◌}
use Rattle.dpl_tiles.specs.declared.end.End.{End}
use Rattle.dpl_tiles.specs.declared.side.Side.{Side}
use Rattle.dpl_tiles.specs.Sides.{stands}

-- how many ends stand at or left of the column, and at or below the row
abbrev pub standing_ends : ℤ → ℤ → List End → ℕ
standing_ends x y ends = sum_by (λ e. if int_le e.column x && int_le e.row y then 1 else 0) ends

-- how many ends stand at or left of the column
abbrev pub left_ends : ℤ → List End → ℕ
left_ends x ends = sum_by (λ e. if int_le e.column x then 1 else 0) ends

-- an even number of ends stands in each column
abbrev pub ArePaired : List End → Type 0
ArePaired ends = (x : ℤ) → left_ends x ends % 2 ≡ 0

-- the first end stands further left, or in the same column and not above
abbrev pub StandsFirst : End → End → Type 0
StandsFirst a b = (a.column <ℤ b.column) ⊎ ((a.column ≡ b.column) × (a.row ≤ℤ b.row))

-- the list grew by the ends of the side
pub record AddsEnds (s : Side) (old new : List End) : Type 0 where
  pub same : (x y : ℤ) → standing_ends x y new % 2 ≡ (standing_ends x y old + (if stands x y s then 1 else 0)) % 2
  pub paired : (x : ℤ) → left_ends x new % 2 ≡ left_ends x old % 2
