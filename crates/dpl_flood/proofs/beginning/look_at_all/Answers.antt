use Rattle.dpl_flood.specs.States.{sea_of}
use Rattle.dpl_flood.proofs.BeginLemmas.{first_none, first_more}
use Rattle.dpl_flood.proofs.beginning.look_at_all.Goals as goal

pub loop-i-init : goal.loop-i-init
loop-i-init c = first_none c.args.dual.now (sea_of c.args.state.now) c.args.faces.now c.args.queue.now

pub loop-i-preserved : goal.loop-i-preserved
loop-i-preserved c = first_more c.args.dual.now (sea_of c.args.state.now) c.args.faces.now c.loop-i.i c.args.queue.now c.loop-i.queue c.look_around.new.queue
    c.loop-i.invariant c.look_around.ensures.keys
