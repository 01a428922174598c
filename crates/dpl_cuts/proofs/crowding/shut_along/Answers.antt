use Rattle.std.proofs.Common.{◌≡◌, ◌∙◌, ap, Some}
use Rattle.dpl_cell.specs.Places.{corners_of}
use Rattle.dpl_cuts.specs.Positions.{first_of, last_of, rect_at}
use Rattle.dpl_cuts.specs.Tilings.{tiles_of}
use Rattle.dpl_cuts.proofs.BlockLemmas.{rect_is}
use Rattle.dpl_cuts.proofs.ShutLemmas.{marked_part}
use Rattle.dpl_cuts.proofs.crowding.shut_along.Goals as goal

pub push_some_at-requires-clause-low : goal.push_some_at-requires-clause-low
push_some_at-requires-clause-low c =
    let tile : corners_of c.index-tiles-i.result ≡ rect_at (tiles_of c.args.tiling.now) c.args.i =
    rect_is c.args.tiling.now.tiles.now c.args.i c.index-tiles-i.result c.requires.within c.index-tiles-i.is in
    let from = c.lane_of-lane.ensures.from ∙ ap first_of tile in
    rw (← from) (marked_part c.lane_of-lane.result _ (Some c.in-Some.place) c.in-Some.ensures).0

pub push_some_at-requires-clause-high : goal.push_some_at-requires-clause-high
push_some_at-requires-clause-high c =
    let tile : corners_of c.index-tiles-i.result ≡ rect_at (tiles_of c.args.tiling.now) c.args.i =
    rect_is c.args.tiling.now.tiles.now c.args.i c.index-tiles-i.result c.requires.within c.index-tiles-i.is in
    let to = c.lane_of-lane.ensures.to ∙ ap last_of tile in
    rw (← to) (marked_part c.lane_of-lane.result _ (Some c.in-Some.place) c.in-Some.ensures).1
