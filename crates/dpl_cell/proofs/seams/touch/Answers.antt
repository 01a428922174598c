use Rattle.std.proofs.Common.{rules, SFits, w64}
use Rattle.std.proofs.lemmas.Int.{to_z-of_z}
use Rattle.dpl_cell.specs.Places.{corners_of}
use Rattle.dpl_cell.proofs.SeamLemmas.{touch_test}
use Rattle.dpl_cell.proofs.seams.touch.Goals as goal

pub returns : goal.returns
returns c =
    let a = c.args.a.now in
    let b = c.args.b.now in
    let r = c.common_part-c.result in
    let f1 : SFits w64 r.left = search rules in
    let f2 : SFits w64 r.right = search rules in
    let f3 : SFits w64 r.low = search rules in
    let f4 : SFits w64 r.high = search rules in
    let e = c.common_part-c.ensures in
    simp to_z-of_z (touch_test (corners_of a) (corners_of b) r.left r.right r.low r.high (a.wide, a.high) (b.wide, b.high) e.left e.right e.low e.high)
