-- How boxes are counted.
use Rattle.std.specs.Prelude.{◌≡◌, ℕ, ◌<◌, ◌+◌, ℤ, pos, ◌+ℤ◌, List, length, sum_by, if◌then◌else◌, zero, suc}
use Rattle.dpl_cell.specs.declared.rect.Rect.{Rect}
use Rattle.dpl_cell.specs.Cells.{IsWithin}
use Rattle.dpl_cell.specs.Layers.{is_within}
use Rattle.dpl_cover.specs.declared.blocks.Block.{Block}
use Rattle.dpl_cover.specs.Columns.{column_at}
use Rattle.dpl_cover.specs.Counts.{AreCounts, AreSmall, count_at}

-- how many of the boxes have column x
abbrev pub having : ℤ → List Rect → ℕ
having x boxes = sum_by (λ r. if is_within r.x1 r.x2 x then 1 else 0) boxes

-- the number n times
abbrev pub times : ℤ → ℕ → ℤ
times by zero = pos 0
times by (suc n) = by +ℤ times by n

-- the number was added to the counts of the places that the box has
pub record IsCountedMore (columns : List ℤ) (r : Rect) (by : ℤ) (each : List ℤ) (blocks : List Block)
    (each' : List ℤ) (blocks' : List Block) : Type 0 where
  pub counts : AreCounts each' blocks'
  pub long : length each' ≡ length each
  pub inside : (k : ℕ) → k < length each → IsWithin r.x1 r.x2 (column_at columns k) →
      count_at each' blocks' k ≡ count_at each blocks k +ℤ by
  pub beside : (k : ℕ) → k < length each → ¬ IsWithin r.x1 r.x2 (column_at columns k) →
      count_at each' blocks' k ≡ count_at each blocks k
  pub grown : (n : ℕ) → AreSmall n each blocks → AreSmall (n + 1) each' blocks'

-- it was added once for each box that has the place
pub record AreTallied (columns : List ℤ) (by : ℤ) (boxes : List Rect) (each : List ℤ) (blocks : List Block)
    (each' : List ℤ) (blocks' : List Block) : Type 0 where
  pub counts : AreCounts each' blocks'
  pub long : length each' ≡ length each
  pub same : (k : ℕ) → k < length each →
      count_at each' blocks' k ≡ count_at each blocks k +ℤ times by (having (column_at columns k) boxes)
  pub grown : (n : ℕ) → AreSmall n each blocks → AreSmall (n + length boxes) each' blocks'
