-- More tiles than the limit.
use Rattle.std.specs.Prelude.{◌≡◌, ℕ, ◌<◌, Bool, List, ℤ, All, AllPairs, length}
use Rattle.dpl_cell.specs.Places.{Corners}
use Rattle.dpl_cell.specs.Tiles.{IsTile}

-- the cells have more than n tiles: there are more than n, no two of them the same
pub record HasMoreTiles (cells : ℤ → ℤ → Bool) (n : ℕ) : Type 0 where
  pub tiles : List Corners
  pub each : All (IsTile cells) tiles
  pub different : AllPairs (λ a b. ¬ (a ≡ b)) tiles
  pub many : n < length tiles
