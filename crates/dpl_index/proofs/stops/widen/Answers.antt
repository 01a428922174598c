use Rattle.std.proofs.Common.{arith}
use Rattle.dpl_index.proofs.StopLemmas.{blank}
use Rattle.dpl_index.proofs.stops.widen.Goals as goal

pub more-smaller : goal.more-smaller
more-smaller c = let a = c.absorb-rest.ensures.more blank in let e = c.more.invariant.rest blank in let l = c.more.invariant.low in omega arith
