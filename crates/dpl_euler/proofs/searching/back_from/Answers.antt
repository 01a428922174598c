use Rattle.std.proofs.Common.{arith}
use Rattle.dpl_euler.proofs.SearchLemmas.{path_back, edges_back}
use Rattle.dpl_euler.proofs.searching.back_from.Goals as goal

pub loop-at-preserved : goal.loop-at-preserved
loop-at-preserved c =
    let back = c.requires.steps.back c.loop-at.at c.loop-at-test.true c.loop-at.invariant.inside in
    record {
      path = rw c.in_ok-push.ensures.items (path_back c.args.search.now.graph.now c.args.search.now.set.now c.args.steps.now _
          c.loop-at.edges.items c.loop-at.at back c.loop-at.invariant.path);
      chosen = rw c.in_ok-push.ensures.items (edges_back c.args.search.now.graph.now c.args.search.now.set.now c.args.steps.now
          c.loop-at.edges.items c.loop-at.at back c.loop-at.invariant.chosen);
      inside = omega (arith, back.earlier, c.loop-at.invariant.inside);
    }
