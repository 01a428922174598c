use Rattle.dpl_index.proofs.KindLemmas.{in_order}
use Rattle.dpl_index.proofs.kinded.KindIndex.places.Goals as goal

pub returns-clause-order : goal.returns-clause-order
returns-clause-order c = rw (← c.self.view_is) (in_order _ _ c.self.invariant.index)
