-- Shapes: cells of a set that are joined over shared edges.
use Rattle.std.specs.Prelude.{◌≡◌, Bool, List, [], ◌∷◌, ℤ, IsTrue}
use Rattle.dpl_cell.specs.Edges.{AreNeighbours}

-- a walk from cell to cell of the set over shared edges
abbrev pub IsWalk : (ℤ → ℤ → Bool) → ℤ → ℤ → List (ℤ × ℤ) → ℤ → ℤ → Type 0
IsWalk cells x y [] x' y' = IsTrue (cells x y) × (x ≡ x') × (y ≡ y')
IsWalk cells x y (c ∷ cs) x' y' =
    IsTrue (cells x y) × AreNeighbours x y c.0 c.1 × IsWalk cells c.0 c.1 cs x' y'

-- the two cells are of one shape
abbrev pub AreOneShape : (ℤ → ℤ → Bool) → ℤ → ℤ → ℤ → ℤ → Type 0
AreOneShape cells x y x' y' = (walk : List (ℤ × ℤ)) × IsWalk cells x y walk x' y'
