use Rattle.std.proofs.Common.{rules, w64, SFits}
use Rattle.std.proofs.lemmas.Int.{to_z-of_z}
use Rattle.dpl_tiles.proofs.CornerLemmas.{side_added}
use Rattle.dpl_tiles.proofs.corners.push_side.Goals as goal

pub returns : goal.returns
returns c =
    let f : SFits w64 c.args.p.now.y = search rules in
    let g : SFits w64 c.args.q.now.y = search rules in
    side_added c.args.p.now c.args.q.now c.columns_between-columns.result.left c.columns_between-columns.result.right _
    c.push.new.self.items _ c.corner_at.result c.corner_at-2.result c.columns_between-columns.ensures
    c.in_ok-push.ensures.items c.in_ok-push-2.ensures.items (simp to_z-of_z at c.corner_at.ensures)
    (simp to_z-of_z at c.corner_at-2.ensures)
