use Rattle.std.proofs.Common.{rules, subst, ◌<ℤ◌, ◌≤ℤ◌, SFits, w64}
use Rattle.std.proofs.lemmas.Int.{to_z-of_z}
use Rattle.dpl_list.proofs.Integers.{is_less, not_less}
use Rattle.dpl_cover.specs.Covers.{side_of}
use Rattle.dpl_cover.proofs.CoverLemmas.{passed_one_more, passed_up_to}
use Rattle.dpl_cover.proofs.cover.passed_at.Goals as goal

pub loop-n-preserved : goal.loop-n-preserved
loop-n-preserved c =
    let f : SFits w64 c.args.row = c.ranges.row in
    let g : SFits w64 c.side_of.result = search rules in
    let here : c.side_of.result ≤ℤ c.args.row = not_less _ _ (simp to_z-of_z at c.if-row-side_of.false) in
    simp to_z-of_z (passed_one_more (side_of c.args.is_upper) c.args.boxes.now c.args.row c.loop-n.n c.index-boxes-n.result c.loop-n-test.true
    (subst (λ r. side_of c.args.is_upper r ≤ℤ c.args.row) c.index-boxes-n.is (rw c.side_of.ensures at here)) (simp to_z-of_z at c.loop-n.invariant))

pub returns-then-row-side_of-clause-passed : goal.returns-then-row-side_of-clause-passed
returns-then-row-side_of-clause-passed c =
    let f : SFits w64 c.args.row = c.ranges.row in
    let g : SFits w64 c.side_of.result = search rules in
    let here : c.args.row <ℤ c.side_of.result = is_less _ _ (simp to_z-of_z at c.if-row-side_of.true) in
    passed_up_to (side_of c.args.is_upper) c.args.boxes.now c.args.row c.loop-n.n c.index-boxes-n.result c.requires.order c.loop-n-test.true
    (subst (λ r. c.args.row <ℤ side_of c.args.is_upper r) c.index-boxes-n.is (rw c.side_of.ensures at here)) (simp to_z-of_z at c.loop-n.invariant)
