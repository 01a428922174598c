use Rattle.dpl_bound.proofs.OddLemmas.{come_next}
use Rattle.dpl_bound.proofs.walking.is_odd_walk.Goals as goal

pub loop-k-preserved : goal.loop-k-preserved
loop-k-preserved c = come_next c.args.graph.now c.args.walk.now.start c.as_slice-edges.result.now c.loop-k.k _ _ _ _ c.loop-k-test.true
    c.loop-k.invariant c.in-Some.ensures.leaves c.in-Some.ensures.node c.in-Some.ensures.odd
