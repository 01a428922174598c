-- Columns whose places are counted.
use Rattle.std.specs.Prelude.{◌≡◌, ℕ, ℤ, List, true}
use Rattle.dpl_cover.specs.declared.blocks.Block.{Block}
use Rattle.dpl_cover.specs.Columns.{IsAt}
use Rattle.dpl_cover.specs.Counts.{is_counted}

-- the place of column x is counted
pub record HasCounted (columns each : List ℤ) (blocks : List Block) (x : ℤ) : Type 0 where
  pub place : ℕ
  pub is_at : IsAt columns place x
  pub counted : is_counted each blocks place ≡ true
