use Rattle.std.proofs.Common.{arith, get_or, ℕ, ◌≡◌}
use Rattle.std.proofs.lemmas.List.{get_or_default}
use Rattle.dpl_classes.proofs.WayLemmas.{united_more, united_all}
use Rattle.dpl_classes.proofs.rooting.unite.Goals as goal

pub loop-pair-preserved : goal.loop-pair-preserved
loop-pair-preserved c =
    let p : ℕ × ℕ = get_or c.args.pairs.now c.loop-pair.pair-index (0, 0) in
    let is : p ≡ get_or c.args.pairs.now c.loop-pair.pair-index p = get_or_default c.args.pairs.now c.loop-pair.pair-index (0, 0) p c.loop-pair-test.true in
    let la = c.top-a.ensures.inside in let lb = c.top-b.ensures.inside in
    let na = c.top-a.auto.ups in let nb = c.top-b.auto.ups in
    united_more _ _ _ c.loop-pair.ups c.top-b.new.ups p c.top-a.result c.top-b.result _ _ c.requires.within c.loop-pair-test.true is c.max.ensures c.min.ensures
    (omega arith) (omega arith) (c.top-b.ensures.ends c.top-a.result c.top-a.ensures.end) c.top-b.ensures.end
    (λ tops t. let u = c.top-a.ensures.same tops t in (c.top-b.ensures.same tops u, c.top-a.ensures.top tops t, c.top-b.ensures.top tops u))
    c.loop-pair.invariant

pub returns : goal.returns
returns c = united_all _ _ c.loop-pair.pair-index _ c.loop-pair-test.false c.loop-pair.invariant
