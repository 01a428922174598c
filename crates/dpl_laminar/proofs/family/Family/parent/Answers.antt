use Rattle.dpl_laminar.proofs.Reached.{all_reached}
use Rattle.dpl_laminar.proofs.family.Family.parent.Goals as goal

pub returns-clause-reached : goal.returns-clause-reached
returns-clause-reached c = rw (← c.self.view_is) (all_reached _ c.self.invariant.family)
