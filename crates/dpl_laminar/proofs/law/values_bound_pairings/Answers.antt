use Rattle.dpl_laminar.proofs.Duality.{values_bound, families_bound}
use Rattle.dpl_laminar.proofs.law.values_bound_pairings.Goals as goal

pub returns-clause-sets : goal.returns-clause-sets
returns-clause-sets c = values_bound

pub returns-clause-families : goal.returns-clause-families
returns-clause-families c = families_bound
