use Rattle.dpl_euler.proofs.CrossingLemmas.{links_more}
use Rattle.dpl_euler.proofs.crossings.links_of.Goals as goal

pub loop-edge-preserved : goal.loop-edge-preserved
loop-edge-preserved c = rw c.in_ok-push.ensures.items (links_more c.args.fragments.now c.args.net.now
    c.loop-edge.links.items c.loop-edge.edge _ c.loop-edge.invariant c.link_at.ensures)
