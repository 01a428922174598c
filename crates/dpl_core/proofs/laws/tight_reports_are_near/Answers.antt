use Rattle.dpl_core.proofs.LawLemmas.{half_of_bound, near_least, least_of_all}
use Rattle.dpl_core.proofs.laws.tight_reports_are_near.Goals as goal

pub returns-clause-bound : goal.returns-clause-bound
returns-clause-bound c = half_of_bound

pub returns-clause-near : goal.returns-clause-near
returns-clause-near c = near_least

pub returns-clause-least : goal.returns-clause-least
returns-clause-least c = least_of_all
