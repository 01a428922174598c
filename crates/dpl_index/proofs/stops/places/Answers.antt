use Rattle.dpl_index.proofs.StopLemmas.{named_more}
use Rattle.dpl_index.proofs.stops.places.Goals as goal

pub loop-i-preserved : goal.loop-i-preserved
loop-i-preserved c = named_more _ _ _ _ c.in_ok-push.ensures.items c.loop-i.invariant
