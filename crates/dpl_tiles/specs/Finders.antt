-- What finds the cells of primitives in a row: boxes by the columns that they cover, polygons by their bounds and sides.
use Rattle.std.specs.Prelude.{List, Bool, true, false, [], ◌∷◌, filter, IsPermutation}
use Rattle.std.specs.List.{AllZip}
use Rattle.dpl_cell.specs.declared.rect.Rect.{Rect}
use Rattle.dpl_cell.specs.declared.layout.Primitive.{Primitive}
use Rattle.dpl_cell.specs.declared.layout.Primitive.TheVariants as prim
use Rattle.dpl_cover.specs.Covers.{IsCover}
use Rattle.dpl_tiles.specs.declared.finder.Finder.{Finder}
use Rattle.dpl_tiles.specs.Bounds.{AreBoundsOf}
use Rattle.dpl_tiles.specs.Sides.{AreSides}

abbrev pub is_polygon : Primitive → Bool
is_polygon (prim.Box r) = false
is_polygon (prim.Poly points) = true

-- the boxes among primitives
abbrev pub boxes_of : List Primitive → List Rect
boxes_of [] = []
boxes_of (prim.Box r ∷ ps) = r ∷ boxes_of ps
boxes_of (prim.Poly points ∷ ps) = boxes_of ps

-- the bounds and the sides of each polygon, and a cover of the boxes
pub record IsFinderOf (prims : List Primitive) (finder : Finder) : Type 0 where
  pub bounds : AreBoundsOf (filter is_polygon prims) finder.polygons
  pub sides : AllZip AreSides (filter is_polygon prims) finder.sides.items
  pub boxes : IsPermutation (boxes_of prims) finder.cover.begins.items
  pub cover : IsCover finder.cover
