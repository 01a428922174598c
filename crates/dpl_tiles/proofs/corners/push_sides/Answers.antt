use Rattle.std.proofs.Common.{rules, w64, SFits}
use Rattle.std.proofs.lemmas.Int.{to_z-of_z}
use Rattle.dpl_tiles.proofs.CornerLemmas.{sides_added}
use Rattle.dpl_tiles.proofs.corners.push_sides.Goals as goal

pub returns : goal.returns
returns c =
    let f : SFits w64 c.args.r.now.y1 = search rules in
    let g : SFits w64 c.args.r.now.y2 = search rules in
    let h : SFits w64 c.args.r.now.x1 = search rules in
    let i : SFits w64 c.args.r.now.x2 = search rules in
    sides_added c.args.r.now _ _ _ _ c.corner_at.result c.corner_at-2.result
    c.in_ok-push.ensures.items c.in_ok-push-2.ensures.items (simp to_z-of_z at c.corner_at.ensures)
    (simp to_z-of_z at c.corner_at-2.ensures)
