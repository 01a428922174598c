use Rattle.std.proofs.Common.{rules, sym, ◌∙◌, ◌<ℤ◌}
use Rattle.std.proofs.lemmas.Int.{to_z-of_z}
use Rattle.dpl_cell.specs.Cells.{IsWithin}
use Rattle.dpl_cell.specs.Places.{corners_of}
use Rattle.dpl_cell.proofs.Same.{corners_fit}
use Rattle.dpl_cuts.specs.Stretches.{Marks}
use Rattle.dpl_cuts.proofs.BlockLemmas.{kept_x, kept_y}
use Rattle.dpl_cuts.proofs.blocking.share_of.Goals as goal

pub returns-then-lies_along_x : goal.returns-then-lies_along_x
returns-then-lies_along_x c =
    let (f1, (f2, (f3, f4))) = corners_fit c.args.tile.now in
    let (g1, (g2, (g3, g4))) = corners_fit c.args.q.now in
    let low : c.args.tile.now.y1 <ℤ c.args.q.now.y2 = search rules in
    let high : c.args.q.now.y1 <ℤ c.args.tile.now.y2 = search rules in
    let m : Marks (IsWithin c.args.q.now.x1 c.args.q.now.x2) c.lane_of-lane.result.from c.lane_of-lane.result.to
    c.clipped.result = simp to_z-of_z at c.clipped.ensures in
    kept_x (corners_of c.args.tile.now) (corners_of c.args.q.now) c.lane_of-lane.result c.clipped.result
    (sym c.lies_along_x.ensures ∙ c.if-lies_along_x.true) c.lane_of-lane.ensures.from c.lane_of-lane.ensures.to
    c.args.tile.now.high c.args.q.now.high low high m

pub returns : goal.returns
returns c =
    let (f1, (f2, (f3, f4))) = corners_fit c.args.tile.now in
    let (g1, (g2, (g3, g4))) = corners_fit c.args.q.now in
    let low : c.args.tile.now.x1 <ℤ c.args.q.now.x2 = search rules in
    let high : c.args.q.now.x1 <ℤ c.args.tile.now.x2 = search rules in
    let m : Marks (IsWithin c.args.q.now.y1 c.args.q.now.y2) c.lane_of-lane.result.from c.lane_of-lane.result.to
    c.clipped-2.result = simp to_z-of_z at c.clipped-2.ensures in
    kept_y (corners_of c.args.tile.now) (corners_of c.args.q.now) c.lane_of-lane.result c.clipped-2.result
    (sym c.lies_along_x.ensures ∙ c.if-lies_along_x.false) c.lane_of-lane.ensures.from c.lane_of-lane.ensures.to
    c.args.tile.now.wide c.args.q.now.wide low high m
