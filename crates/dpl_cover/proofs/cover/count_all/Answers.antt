use Rattle.std.proofs.Common.{arith, rules, ◌≤◌, ◌+◌, ◌^◌, length, take, SFits, w64}
use Rattle.std.proofs.lemmas.Int.{to_z-of_z}
use Rattle.dpl_cover.proofs.CountLemmas.{small_wider}
use Rattle.dpl_cover.proofs.TallyLemmas.{none_tallied, tallied_more, all_tallied}
use Rattle.dpl_cover.proofs.cover.count_all.Goals as goal

pub loop-r-init : goal.loop-r-init
loop-r-init c = none_tallied _ _ _ _ c.requires.counts

pub count_box-near-requires-clause-small : goal.count_box-near-requires-clause-small
count_box-near-requires-clause-small c =
    let n : length (take c.loop-r.r-index c.args.boxes.now) ≤ 2 ^ 41 = search rules in
    small_wider (2 ^ 57 + length (take c.loop-r.r-index c.args.boxes.now)) (2 ^ 58) _ _ (omega (arith, n))
    (c.loop-r.invariant.grown (2 ^ 57) c.requires.small)

pub loop-r-preserved : goal.loop-r-preserved
loop-r-preserved c =
    let by : SFits w64 c.args.by = c.ranges.by in
    simp to_z-of_z (tallied_more c.args.columns.now c.args.by c.args.boxes.now c.loop-r.r-index c.r-item.result _ _ _ _ _ _
    c.loop-r-test.true c.r-item.is (simp to_z-of_z at c.loop-r.invariant) (simp to_z-of_z at c.count_box-near.ensures))

pub returns : goal.returns
returns c =
    let by : SFits w64 c.args.by = c.ranges.by in
    all_tallied c.args.columns.now c.args.by c.args.boxes.now c.loop-r.r-index _ _ _ _ c.loop-r-test.false (simp to_z-of_z at c.loop-r.invariant)
