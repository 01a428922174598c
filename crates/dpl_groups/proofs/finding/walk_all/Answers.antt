use Rattle.std.proofs.Common.{arith}
use Rattle.dpl_groups.specs.Walk.{view}
use Rattle.dpl_groups.proofs.AllDone.{all_done, seen_more}
use Rattle.dpl_groups.proofs.finding.walk_all.Goals as goal

pub loop-node-preserved : goal.loop-node-preserved
loop-node-preserved c = record {
  kept = c.in_ok-visit.ensures.walk;
  empty = c.in_ok-visit.ensures.empty;
  seen = λ x h. seen_more (view c.loop-node.walk) (view c.visit.new.walk) c.loop-node.node x c.in_ok-visit.ensures.seen
      c.in_ok-visit.ensures.node c.loop-node.invariant.seen h;
}

pub returns-clause-done : goal.returns-clause-done
returns-clause-done c =
    all_done c.args.edges.now c.loop-node.walk c.loop-node.node c.loop-node.invariant.kept c.loop-node.invariant.empty (omega arith) c.loop-node.invariant.seen
