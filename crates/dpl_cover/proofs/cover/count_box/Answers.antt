use Rattle.std.proofs.Common.{rules, SFits, w64}
use Rattle.std.proofs.lemmas.Int.{to_z-of_z}
use Rattle.dpl_cover.proofs.TallyLemmas.{box_counted, nothing_counted}
use Rattle.dpl_cover.proofs.cover.count_box.Goals as goal

pub returns : goal.returns
returns c =
    let f : SFits w64 c.args.r.now.x1 = search rules in
    let g : SFits w64 c.args.r.now.x2 = search rules in
    let by : SFits w64 c.args.by = c.ranges.by in
    box_counted c.args.columns.now c.args.r.now c.args.by c.place_near-from.result c.place_after-to.result c.args.each.now
    c.args.blocks.now c.change.new.each c.change.new.blocks c.requires.long (simp to_z-of_z at c.place_near-from.ensures.left)
    (simp to_z-of_z at c.place_near-from.ensures.others) c.place_after-to.ensures.left
    c.place_after-to.ensures.others c.requires.one (simp to_z-of_z at c.change.ensures)

pub returns-then-from-to : goal.returns-then-from-to
returns-then-from-to c =
    let f : SFits w64 c.args.r.now.x1 = search rules in
    let g : SFits w64 c.args.r.now.x2 = search rules in
    nothing_counted c.args.columns.now c.args.r.now c.args.by c.place_near-from.result c.place_after-to.result c.args.each.now
    c.args.blocks.now c.requires.long (search rules) (simp to_z-of_z at c.place_near-from.ensures.left)
    c.place_after-to.ensures.others c.requires.counts
