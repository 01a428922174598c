use Rattle.dpl_tiles.proofs.CancelLemmas.{ends_none, ends_more, ends_all}
use Rattle.dpl_tiles.proofs.cancelling.ends_of.Goals as goal

pub loop-side-init : goal.loop-side-init
loop-side-init c = rw c.in_ok-ends.ensures.items (ends_none _)

pub loop-side-preserved : goal.loop-side-preserved
loop-side-preserved c = ends_more _ _ c.side-item.result _ _ c.loop-side-test.true c.side-item.is c.in_ok-push_ends.ensures c.loop-side.invariant

pub returns-clause-same : goal.returns-clause-same
returns-clause-same c = ends_all _ c.loop-side.side-index _ c.loop-side-test.false c.loop-side.invariant

pub returns-clause-paired : goal.returns-clause-paired
returns-clause-paired c = c.loop-side.invariant.paired
