use Rattle.std.proofs.Common.{SFits, w64}
use Rattle.std.proofs.lemmas.Int.{to_z-of_z}
use Rattle.dpl_tiles.proofs.PartLemmas.{between_more, between_all, framed_side}
use Rattle.dpl_tiles.proofs.rows.push_polygons.Goals as goal

pub push_polygon-requires : goal.push_polygon-requires
push_polygon-requires c =
    let f : SFits w64 c.args.y = c.ranges.y in
    simp to_z-of_z (framed_side c.args.sides.now _ c.index-sides-i.result c.args.y _ _
    (c.requires.found c.loop-i.i-index 0 c.loop-i-test.true) c.index-sides-i.is c.requires.framed)

pub loop-i-preserved : goal.loop-i-preserved
loop-i-preserved c =
    let f : SFits w64 c.args.y = c.ranges.y in
    simp to_z-of_z (between_more c.args.sides.now c.args.found.now c.loop-i.i-index c.args.y _ _ _ _ _ c.index-sides-i.result
    c.loop-i-test.true (c.requires.found c.loop-i.i-index 0 c.loop-i-test.true) c.index-sides-i.is
    (simp to_z-of_z at c.in_ok-push_polygon.ensures) (simp to_z-of_z at c.loop-i.invariant))

pub returns : goal.returns
returns c =
    let f : SFits w64 c.args.y = c.ranges.y in
    between_all c.args.sides.now c.args.found.now c.loop-i.i-index c.args.y _ _ _ _ c.loop-i-test.false (simp to_z-of_z at c.loop-i.invariant)
