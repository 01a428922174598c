use Rattle.std.proofs.Common.{rules, SFits, w64}
use Rattle.std.proofs.lemmas.Int.{to_z-of_z}
use Rattle.dpl_index.proofs.MeetingLemmas.{meets_both}
use Rattle.dpl_index.proofs.bounds.do_meet.Goals as goal

pub returns-then-overlap : goal.returns-then-overlap
returns-then-overlap c =
    let f0 : SFits w64 c.args.a.now.left = search rules in
    let f1 : SFits w64 c.args.a.now.right = search rules in
    let f2 : SFits w64 c.args.a.now.low = search rules in
    let f3 : SFits w64 c.args.a.now.high = search rules in
    let f4 : SFits w64 c.args.b.now.left = search rules in
    let f5 : SFits w64 c.args.b.now.right = search rules in
    let f6 : SFits w64 c.args.b.now.low = search rules in
    let f7 : SFits w64 c.args.b.now.high = search rules in
    meets_both _ _ _ _ c.if-overlap.true (simp to_z-of_z at c.overlap.ensures) (simp to_z-of_z at c.overlap-then-overlap.ensures)
