use Rattle.std.proofs.Common.{rules}
use Rattle.dpl_tiles.specs.Corners.{AddsCorners}
use Rattle.dpl_tiles.proofs.CornerLemmas.{others_added}
use Rattle.dpl_tiles.proofs.corners.push_corners.Goals as goal

pub returns-in_ok-push_points-in-Poly : goal.returns-in_ok-push_points-in-Poly
returns-in_ok-push_points-in-Poly c =
    let added : AddsCorners c.args.prim.now c.args.others.now.items c.push_points.new.corners.items = search rules in
    others_added c.args.prim.now c.args.lower.now.items c.args.others.now.items c.push_points.new.corners.items added
