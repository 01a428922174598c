use Rattle.std.proofs.Common.{◌<◌, List, length, map}
use Rattle.std.proofs.lemmas.List.{length-map}
use Rattle.dpl_cell.specs.Places.{Corners, corners_of}
use Rattle.dpl_cell.proofs.BoxLemmas.{rects_have}
use Rattle.dpl_cuts.specs.Positions.{nowhere}
use Rattle.dpl_cuts.proofs.ShutLemmas.{shut_so_far}
use Rattle.dpl_cuts.proofs.crowding.shut_beside.Goals as goal

pub shut_along-requires-clause-shut : goal.shut_along-requires-clause-shut
shut_along-requires-clause-shut c =
    let rects : List Corners = map corners_of c.args.tiling.now.tiles.now in
    let inside : c.args.i < length rects = rw (length-map c.args.tiling.now.tiles.now corners_of) c.requires.within in
    shut_so_far rects c.args.tiling.now.label.now c.args.near.now c.requires.near.reach c.args.tiling.now.space c.args.i _
    c.requires.near.around inside c.requires.near.some
    (rects_have c.args.tiling.now.tiles.now c.args.i nowhere inside).1 c.in_ok-touched.ensures
