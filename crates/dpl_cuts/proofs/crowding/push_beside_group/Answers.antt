use Rattle.std.proofs.Common.{rules, ◌≡◌, ◌∙◌, ap, refl, get_or, SFits, w64}
use Rattle.std.proofs.lemmas.Int.{to_z-of_z}
use Rattle.dpl_cell.specs.Places.{Corners, corners_of}
use Rattle.dpl_near.specs.Around.{HasOthers}
use Rattle.dpl_cuts.specs.Positions.{first_of, last_of, part_of, rect_at}
use Rattle.dpl_cuts.specs.Tilings.{surroundings_of, tiles_of}
use Rattle.dpl_cuts.proofs.BlockLemmas.{rect_is}
use Rattle.dpl_cuts.proofs.ShutLemmas.{adds_beside, adds_none}
use Rattle.dpl_cuts.proofs.crowding.push_beside_group.Goals as goal

pub returns-in_ok-extend_from_slice-in-Some : goal.returns-in_ok-extend_from_slice-in-Some
returns-in_ok-extend_from_slice-in-Some c =
    let tile : corners_of c.index-tiles-i.result ≡ rect_at (tiles_of c.args.tiling.now) c.args.i =
    rect_is c.args.tiling.now.tiles.now c.args.i c.index-tiles-i.result c.requires.within c.index-tiles-i.is in
    let o : HasOthers (surroundings_of c.args.tiling.now) c.args.reach (corners_of c.part_of-part.result)
    (get_or c.args.tiling.now.label.now c.args.i 0) c.in_ok-near-in-Some.near.items =
    rw c.requires.finder at c.in_ok-near-in-Some.ensures in
    let from : SFits w64 c.in-Some.span.from = search rules in
    let to : SFits w64 c.in-Some.span.to = search rules in
    let part : corners_of c.part_of-part.result ≡ part_of (corners_of c.index-tiles-i.result) c.in-Some.span.from c.in-Some.span.to =
    simp to_z-of_z at c.part_of-part.ensures in
    rw (c.in_ok-extend_from_slice-in-Some.ensures.items, c.as_slice-in-Some.ensures.value)
    (adds_beside (tiles_of c.args.tiling.now) c.args.tiling.now.label.now c.as_slice.result.now c.args.tiling.now.space
    c.args.tiling.now.space c.args.i c.args.reach _ c.lane_of.result c.in-Some.span.from c.in-Some.span.to
    (corners_of c.part_of-part.result) _ _ _ (c.lane_of.ensures.from ∙ ap first_of tile) (c.lane_of.ensures.to ∙ ap last_of tile)
    c.requires.shut c.in-Some.ensures.all (part ∙ ap (λ (r : Corners). part_of r c.in-Some.span.from c.in-Some.span.to) tile) refl
    (rw c.as_slice.ensures.value o) c.in_ok-found-in-Some.ensures)

pub returns-in-None : goal.returns-in-None
returns-in-None c =
    let tile : corners_of c.index-tiles-i.result ≡ rect_at (tiles_of c.args.tiling.now) c.args.i =
    rect_is c.args.tiling.now.tiles.now c.args.i c.index-tiles-i.result c.requires.within c.index-tiles-i.is in
    adds_none (tiles_of c.args.tiling.now) c.args.tiling.now.label.now c.args.tiling.now.space c.args.i c.args.reach
    c.lane_of.result _ _ (c.lane_of.ensures.from ∙ ap first_of tile) (c.lane_of.ensures.to ∙ ap last_of tile)
    c.requires.shut c.in-None.ensures.all
