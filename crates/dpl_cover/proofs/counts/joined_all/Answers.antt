use Rattle.dpl_cover.proofs.CountLemmas.{joined_first, joined_more}
use Rattle.dpl_cover.proofs.counts.joined_all.Goals as goal

pub loop-j-init : goal.loop-j-init
loop-j-init c = joined_first c.args.blocks.now c.args.from

pub loop-j-preserved : goal.loop-j-preserved
loop-j-preserved c = joined_more c.args.blocks.now c.args.from c.loop-j.j c.loop-j.all c.joined-all.result
    c.joined-all.ensures.first c.joined-all.ensures.second c.loop-j.invariant
