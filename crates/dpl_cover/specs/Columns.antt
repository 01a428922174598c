-- The columns at which boxes end.
use Rattle.std.specs.Prelude.{ℕ, ◌<◌, ◌+◌, ℤ, pos, ◌<ℤ◌, ◌≤ℤ◌, List, All, Contains, length, slice_index_or}
use Rattle.dpl_cell.specs.declared.rect.Rect.{Rect}
use Rattle.dpl_cell.specs.Ranges.{IsInRange}

abbrev pub column_at : List ℤ → ℕ → ℤ
column_at columns k = slice_index_or columns k (pos 0)

-- both ends of the box are in the list
pub record HasEnds (ends : List ℤ) (r : Rect) : Type 0 where
  pub left : Contains ends r.x1
  pub right : Contains ends r.x2

-- the list grew by the ends of the box
pub record AddsEnds (r : Rect) (old new : List ℤ) : Type 0 where
  pub kept : (z : ℤ) → Contains old z → Contains new z
  pub has : HasEnds new r
  pub range : All IsInRange old → All IsInRange new

-- each column is right of the one before it
abbrev pub AreRising : List ℤ → Type 0
AreRising columns = (i j : ℕ) → i < j → j < length columns → column_at columns i <ℤ column_at columns j

-- columns from the left, each once, among them the ends of all boxes
pub record AreColumns (boxes : List Rect) (columns : List ℤ) : Type 0 where
  pub rising : AreRising columns
  pub all : All (HasEnds columns) boxes
  pub range : All IsInRange columns

-- column x is one of those at place k: from its column on up to the next, which is left out
pub record IsAt (columns : List ℤ) (k : ℕ) (x : ℤ) : Type 0 where
  pub within : k + 1 < length columns
  pub from : column_at columns k ≤ℤ x
  pub to : x <ℤ column_at columns (k + 1)
