use Rattle.std.proofs.Common.{rules, SFits, w64}
use Rattle.std.proofs.lemmas.Int.{to_z-of_z}
use Rattle.dpl_tiles.proofs.PartLemmas.{found_within, framed_sides, row_sound, row_full}
use Rattle.dpl_tiles.proofs.sweeping.parts_within.Goals as goal

pub push_polygons-requires-clause-found : goal.push_polygons-requires-clause-found
push_polygons-requires-clause-found c = rw (c.as_slice.ensures.value, c.as_slice-2.ensures.value)
    (found_within _ _ _ _ _ c.requires.band.finder.sides c.requires.band.finder.bounds c.in_ok-found.ensures)

pub push_polygons-requires-clause-framed : goal.push_polygons-requires-clause-framed
push_polygons-requires-clause-framed c =
    let f : SFits w64 c.args.band.now.low = search rules in
    simp to_z-of_z (rw c.as_slice.ensures.value (framed_sides c.args.band.now.prims.now _ c.args.band.now.low _ _
    c.requires.band.finder.sides c.requires.framed))

pub returns-clause-sound : goal.returns-clause-sound
returns-clause-sound c =
    let f : SFits w64 c.args.band.now.low = search rules in
    row_sound c.args.band.now.prims.now c.args.band.now.finder.now c.args.band.now.low _ _ _ c.in_ok-parts.parts.items _
    c.requires.band.finder c.requires.band.row c.in_ok-parts.ensures.sound (rw (c.as_slice.ensures.value, c.as_slice-2.ensures.value) at
    (simp to_z-of_z at c.in_ok-push_polygons.ensures))

pub returns-clause-full : goal.returns-clause-full
returns-clause-full c =
    let f : SFits w64 c.args.band.now.low = search rules in
    let l : SFits w64 c.args.window.now.left = search rules in
    let r : SFits w64 c.args.window.now.right = search rules in
    row_full c.args.band.now.prims.now c.args.band.now.finder.now c.args.band.now.low _ _ c.in_ok-found.found.items
    c.in_ok-parts.parts.items _ c.requires.band.finder c.requires.band.row c.requires.framed
    (rw (simp to_z-of_z at c.row_within.ensures) at c.in_ok-found.ensures)
    (simp to_z-of_z at c.in_ok-parts.ensures.full)
    (rw (c.as_slice.ensures.value, c.as_slice-2.ensures.value) at (simp to_z-of_z at c.in_ok-push_polygons.ensures))
