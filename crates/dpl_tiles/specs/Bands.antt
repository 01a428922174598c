-- Bands: the rows between neighbouring ordinates of corners. All rows of a band have the same cells.
use Rattle.std.specs.Prelude.{◌≡◌, ℤ, pos, neg_ℤ, ◌<ℤ◌, ◌≤ℤ◌, List, Bool, All, Contains}
use Rattle.std.specs.Prelude.{map}
use Rattle.dpl_limits.specs.Limits.{most_coordinate}
use Rattle.dpl_cell.specs.declared.rect.Rect.{Rect}
use Rattle.dpl_cell.specs.declared.layout.Primitive.{Primitive}
use Rattle.dpl_cell.specs.declared.layout.Primitive.TheVariants as prim
use Rattle.dpl_cell.specs.Cells.{IsWithin}
use Rattle.dpl_cell.specs.Layers.{is_cell}
use Rattle.dpl_cell.specs.Outlines.{outline_of}
use Rattle.dpl_cell.specs.declared.stretch.Stretch.{Stretch}
use Rattle.dpl_tiles.specs.declared.band.Band.{Band}
use Rattle.dpl_tiles.specs.Finders.{IsFinderOf}

-- the list has the ordinates of a primitive's corners
abbrev pub HasCorners : List ℤ → Primitive → Type 0
HasCorners rows (prim.Box r) = Contains rows r.y1 × Contains rows r.y2
HasCorners rows (prim.Poly points) = All (λ p. Contains rows p.y) points

abbrev pub HasOrdinates : List ℤ → List Primitive → Type 0
HasOrdinates rows prims = All (HasCorners rows) prims

-- the rectangle holds these columns
pub record HasColumns (x1 x2 : ℤ) (r : Rect) : Type 0 where
  pub left : r.x1 ≡ x1
  pub right : r.x2 ≡ x2

-- the rectangle is the stretch in these rows
pub record IsOver (low high : ℤ) (s : Stretch) (r : Rect) : Type 0 where
  pub left : r.x1 ≡ s.from
  pub right : r.x2 ≡ s.to
  pub bottom : r.y1 ≡ low
  pub top : r.y2 ≡ high

-- rows from low up to high, which is left out, with the same cells
pub record AreAlike (cells : ℤ → ℤ → Bool) (low high : ℤ) : Type 0 where
  pub some : low <ℤ high
  pub same : (x y : ℤ) → IsWithin low high y → cells x low ≡ cells x y

-- the cells of the band's primitives
abbrev pub cells_in : Band → ℤ → ℤ → Bool
cells_in b = is_cell (map outline_of b.prims.now)

-- rows within the limits that are alike, and a finder that has reached the lowest of them
pub record IsBand (b : Band) : Type 0 where
  pub alike : AreAlike (cells_in b) b.low b.high
  pub below : neg_ℤ (pos most_coordinate) ≤ℤ b.low
  pub above : b.high ≤ℤ pos most_coordinate
  pub finder : IsFinderOf b.prims.now b.finder.now
  pub row : b.finder.now.cover.row ≡ b.low
