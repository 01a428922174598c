use Rattle.std.proofs.Common.{SFits, w64}
use Rattle.std.proofs.lemmas.Int.{to_z-of_z}
use Rattle.dpl_tiles.proofs.CornerLemmas.{rising_rows, row_of}
use Rattle.dpl_tiles.proofs.corners.corners_at.Goals as goal

pub places_at-places-requires : goal.places_at-places-requires
places_at-places-requires c = rising_rows c.args.corners.now c.requires

pub returns : goal.returns
returns c = let f : SFits w64 c.args.y = c.ranges.y in row_of c.args.corners.now c.args.y _ _ c.requires (simp to_z-of_z at c.places_at-places.ensures)
