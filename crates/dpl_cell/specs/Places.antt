-- Rectangles and points as plain numbers, in grid units of half a hundredth of a micron.
use Rattle.std.specs.Prelude.{ℤ}
use Rattle.dpl_cell.specs.declared.rect.Rect.{Rect}
use Rattle.dpl_cell.specs.declared.point.Point.{Point}

-- two opposite corners of a rectangle: the lower left one, and the upper right one
pub record Corners : Type 0 where
  pub x1 : ℤ
  pub y1 : ℤ
  pub x2 : ℤ
  pub y2 : ℤ

abbrev pub corners_of : Rect → Corners
corners_of r = record { x1 = r.x1; y1 = r.y1; x2 = r.x2; y2 = r.y2 }

-- where a point lies
abbrev pub place_of : Point → ℤ × ℤ
place_of p = (p.x, p.y)
