-- The parts of a layer as plain numbers (boxes and polygons: Mead and Conway 1980, section 4.5).
use Rattle.std.specs.Prelude.{ℤ, List, map}
use Rattle.dpl_cell.specs.declared.layout.Primitive.{Primitive}
use Rattle.dpl_cell.specs.declared.layout.Primitive.TheVariants as prim
use Rattle.dpl_cell.specs.Places.{Corners, corners_of, place_of}

-- a box by its corners, or a polygon by its points in order
pub data Outline : Type 0 where
  Box : Corners → Outline
  Polygon : List (ℤ × ℤ) → Outline

abbrev pub outline_of : Primitive → Outline
outline_of (prim.Box r) = Box (corners_of r)
outline_of (prim.Poly points) = Polygon (map place_of points)
