-- The bounds of rectangles, for an index.
use Rattle.dpl_index.specs.declared.bounds.Bounds.{Bounds}
use Rattle.dpl_cell.specs.Places.{Corners}

-- the columns and rows of a rectangle, and those right behind its last ones
abbrev pub bounds_of : Corners → Bounds
bounds_of r = record { left = r.x1; right = r.x2; low = r.y1; high = r.y2 }
