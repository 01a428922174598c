use Rattle.std.proofs.Common.{rules, SFits, w64}
use Rattle.std.proofs.lemmas.Int.{to_z-of_z}
use Rattle.dpl_tiles.proofs.PartLemmas.{beside_sound, beside_full}
use Rattle.dpl_tiles.proofs.still.parts_beside.Goals as goal

pub returns-clause-sound : goal.returns-clause-sound
returns-clause-sound c =
    let f1 : SFits w64 c.args.stack.now.from = search rules in
    let f2 : SFits w64 c.args.stack.now.to = search rules in
    let f3 : SFits w64 c.args.change.now.left = search rules in
    let f4 : SFits w64 c.args.change.now.right = search rules in
    beside_sound c.args.band.now.prims.now c.args.band.now.finder.now c.args.band.now.low c.args.change.now.left c.args.change.now.right c.args.stack.now
    c.in_ok-parts.parts.items c.push_between.new.parts.items _ c.requires.band.finder c.requires.band.row c.requires.boxes c.requires.same
    c.in_ok-parts.ensures.sound (simp to_z-of_z at c.in_ok-push_between.ensures) (simp to_z-of_z at c.in_ok-push_between-2.ensures)

pub returns-clause-full : goal.returns-clause-full
returns-clause-full c =
    let f1 : SFits w64 c.args.stack.now.from = search rules in
    let f2 : SFits w64 c.args.stack.now.to = search rules in
    let f3 : SFits w64 c.args.change.now.left = search rules in
    let f4 : SFits w64 c.args.change.now.right = search rules in
    beside_full c.args.band.now.prims.now c.args.band.now.finder.now c.args.band.now.low c.args.change.now.left c.args.change.now.right c.args.stack.now
    c.in_ok-parts.parts.items c.push_between.new.parts.items _ c.requires.band.finder c.requires.band.row c.requires.boxes
    (simp to_z-of_z at c.in_ok-parts.ensures.full) (simp to_z-of_z at c.in_ok-push_between.ensures)
    (simp to_z-of_z at c.in_ok-push_between-2.ensures)
