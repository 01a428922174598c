use Rattle.std.proofs.Common.{◌<◌, List, length, map}
use Rattle.std.proofs.lemmas.List.{length-map}
use Rattle.dpl_cell.specs.Places.{Corners, corners_of}
use Rattle.dpl_cell.proofs.BoxLemmas.{rects_have}
use Rattle.dpl_near.specs.Around.{AreAround}
use Rattle.dpl_cuts.specs.Positions.{nowhere}
use Rattle.dpl_cuts.specs.Tilings.{surroundings_of}
use Rattle.dpl_cuts.proofs.ShutLemmas.{shut_by_near}
use Rattle.dpl_cuts.proofs.crowding.cuts_of.Goals as goal

pub few_around-requires : goal.few_around-requires
few_around-requires c = rw (c.requires.finder, length-map c.args.tiling.now.tiles.now corners_of) c.requires.within

pub cut_places-requires-clause-shut : goal.cut_places-requires-clause-shut
cut_places-requires-clause-shut c =
    let rects : List Corners = map corners_of c.args.tiling.now.tiles.now in
    let inside : c.args.i < length rects = rw (length-map c.args.tiling.now.tiles.now corners_of) c.requires.within in
    let a : AreAround (surroundings_of c.args.tiling.now) c.args.i c.as_slice-near.result.now =
    rw (c.as_slice-near.ensures.value, ← c.requires.finder) (rw c.in-Some.is at c.in_ok-near.ensures) in
    shut_by_near rects c.args.tiling.now.label.now c.as_slice-near.result.now c.args.tiling.now.space c.args.i _ a inside
    c.requires.tiling.some (rects_have c.args.tiling.now.tiles.now c.args.i nowhere inside).1 c.in_ok-shut-in-Some.ensures
