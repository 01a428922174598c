use Rattle.dpl_flood.proofs.NotedLemmas.{joins_longer, far_longer, seats_longer}
use Rattle.dpl_flood.proofs.joins.joins_stay.Goals as goal

pub returns-clause-stay : goal.returns-clause-stay
returns-clause-stay c = joins_longer

pub returns-clause-seats : goal.returns-clause-seats
returns-clause-seats c = seats_longer

pub returns-clause-far : goal.returns-clause-far
returns-clause-far c = far_longer
