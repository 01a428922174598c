-- The gap of cells, and what is closer than the spacing (the spacing rule of Kahng, Park, Xu and Yao 2008).
use Rattle.std.specs.Prelude.{◌≡◌, ℕ, ◌+◌, ◌-◌, ◌*◌, ◌≤◌, ◌<◌, ℤ, ◌-ℤ◌, Bool, int_lt}
use Rattle.std.specs.Int.{int_max, int_min}
use Rattle.std.specs.Int.RustNames.{unsigned_abs}
use Rattle.dpl_cell.specs.Cells.{IsWithin}

-- how many columns lie between two columns, or rows between two rows: none between neighbours
abbrev pub between : ℤ → ℤ → ℕ
between x y = unsigned_abs (x -ℤ y) - 1

-- the squared gap of two cells: by Pythagoras from the columns and the rows between them
abbrev pub cell_gap2 : ℤ → ℤ → ℤ → ℤ → ℕ
cell_gap2 x y x' y' = between x x' * between x x' + between y y' * between y y'

-- a cell of one set and a cell of the other
pub record CellPair (one other : ℤ → ℤ → Type 0) (x y x' y' : ℤ) : Type 0 where
  pub first : one x y
  pub second : other x' y'

-- n is the squared gap of two sets of cells: the least of a cell of one and a cell of the other
pub record IsGap2 (one other : ℤ → ℤ → Type 0) (n : ℕ) : Type 0 where
  pub least : (x y x' y' : ℤ) → CellPair one other x y x' y' → n ≤ cell_gap2 x y x' y'
  pub attained : (x : ℤ) × (y : ℤ) × (x' : ℤ) × (y' : ℤ) × CellPair one other x y x' y' ×
      (cell_gap2 x y x' y' ≡ n)

-- a cell of one set and a cell of the other are closer than the reach
pub record AreClose (one other : ℤ → ℤ → Type 0) (reach : ℕ) : Type 0 where
  pub x : ℤ
  pub y : ℤ
  pub x' : ℤ
  pub y' : ℤ
  pub cells : CellPair one other x y x' y'
  pub near : cell_gap2 x y x' y' < reach * reach

-- a place of one stretch and a place of the other have n between them
abbrev pub IsBetween : ℤ → ℤ → ℤ → ℤ → ℕ → Type 0
IsBetween a1 a2 b1 b2 n =
    (x : ℤ) × (y : ℤ) × IsWithin a1 a2 x × IsWithin b1 b2 y × (between x y ≡ n)

-- two stretches have something in common
abbrev pub overlap : ℤ → ℤ → ℤ → ℤ → Bool
overlap a1 a2 b1 b2 = int_lt (int_max a1 b1) (int_min a2 b2)
