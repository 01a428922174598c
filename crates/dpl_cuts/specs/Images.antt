-- Fragments whose rectangles and zones are images of those of other fragments, as where a layout is
-- moved or mirrored.
use Rattle.std.specs.Prelude.{◌≡◌, map}
use Rattle.std.specs.List.{AllZip}
use Rattle.dpl_cell.specs.Places.{Corners, corners_of}
use Rattle.dpl_cuts.specs.declared.types.Cut.{Cut}
use Rattle.dpl_cuts.specs.declared.types.Fragments.{Fragments}

-- the second cut is between the same fragments, and its zone is the image
pub record IsCutImage (image : Corners → Corners) (c d : Cut) : Type 0 where
  pub first : d.a ≡ c.a
  pub second : d.b ≡ c.b
  pub zone : corners_of d.zone ≡ image (corners_of c.zone)

-- the second fragments are the images of the first, one by one
pub record AreImages (image : Corners → Corners) (f g : Fragments) : Type 0 where
  pub rects : map corners_of g.rects ≡ map image (map corners_of f.rects)
  pub tile : g.tile ≡ f.tile
  pub shape : g.shape ≡ f.shape
  pub cuts : AllZip (IsCutImage image) f.cuts g.cuts
