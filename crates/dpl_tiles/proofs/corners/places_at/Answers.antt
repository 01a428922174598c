use Rattle.std.proofs.Common.{SFits, w64}
use Rattle.std.proofs.lemmas.Int.{to_z-of_z}
use Rattle.dpl_tiles.proofs.CornerLemmas.{first_between}
use Rattle.dpl_tiles.proofs.corners.places_at.Goals as goal

pub returns : goal.returns
returns c =
    let f : SFits w64 c.args.y = c.ranges.y in
    first_between c.args.corners.now c.args.y _ _ c.first_from-from.ensures.within c.first_past-to.ensures.within
    (simp to_z-of_z at c.first_from-from.ensures.place) (simp to_z-of_z at c.first_past-to.ensures.place)
