-- Stacks of equal runs that are built up band by band.
use Rattle.std.specs.Prelude.{◌≡◌, ◌⊎◌, ℕ, ℤ, ◌<ℤ◌, ◌<◌, ◌&&◌, not, List, Bool, All, Any, AllPairs, length, slice_index_or, filter}
use Rattle.std.specs.Ordering.{int_eq}
use Rattle.std.specs.List.{list_any}
use Rattle.dpl_cell.specs.declared.rect.Rect.{Rect}
use Rattle.dpl_cell.specs.Cells.{IsWithin}
use Rattle.dpl_cell.specs.Places.{corners_of}
use Rattle.dpl_cell.specs.Tiles.{IsRun, IsTile}
use Rattle.dpl_tiles.specs.Bands.{HasColumns}

-- the rectangle holds these columns and this row
pub record IsPieceAt (x1 x2 y : ℤ) (r : Rect) : Type 0 where
  pub columns : HasColumns x1 x2 r
  pub row : IsWithin r.y1 r.y2 y

-- the first ends below the second, or in the same row and further left
abbrev pub EndsBefore : Rect → Rect → Type 0
EndsBefore a b = (a.y2 <ℤ b.y2) ⊎ ((a.y2 ≡ b.y2) × (a.x1 <ℤ b.x1))

-- tiles that end below row z
pub record AreEnded (cells : ℤ → ℤ → Bool) (z : ℤ) (rects : List Rect) : Type 0 where
  pub each : All (λ r. IsTile cells (corners_of r)) rects
  pub below : All (λ r. r.y2 <ℤ z) rects
  pub ordered : AllPairs EndsBefore rects

-- all tiles: they hold all runs, and each ends before the next
pub record AreAllTiles (cells : ℤ → ℤ → Bool) (rects : List Rect) : Type 0 where
  pub each : All (λ r. IsTile cells (corners_of r)) rects
  pub whole : (x1 x2 y : ℤ) → IsRun cells x1 x2 y → Any (IsPieceAt x1 x2 y) rects
  pub ordered : AllPairs EndsBefore rects

-- a rectangle at the place of the list has these columns
abbrev pub IsPlaceOf : List Rect → Rect → ℕ → Type 0
IsPlaceOf rects r k = (k < length rects) × HasColumns r.x1 r.x2 (slice_index_or rects k r)

-- a piece of the list has the columns of the rectangle
abbrev pub goes_on : List Rect → Rect → Bool
goes_on pieces r = list_any (λ p. int_eq p.x1 r.x1 && int_eq p.x2 r.x2) pieces

-- the stacks that do not go on in the pieces, from the left
abbrev pub ending : List Rect → List Rect → List Rect
ending pieces growing = filter (λ o. not (goes_on pieces o)) growing
