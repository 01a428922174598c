use Rattle.dpl_pack.proofs.PointLemmas.{load_apart, apart_over}
use Rattle.dpl_pack.proofs.FloodLemmas.{flood_within}
use Rattle.dpl_pack.proofs.StandLemmas.{within_flood}
use Rattle.dpl_pack.proofs.TightLemmas.{tight_total, tight_least}
use Rattle.dpl_pack.proofs.laws.floods_bound_pairings.Goals as goal

pub returns-clause-apart : goal.returns-clause-apart
returns-clause-apart c = λ f. (load_apart f, apart_over f)

pub returns-clause-within : goal.returns-clause-within
returns-clause-within c = flood_within

pub returns-clause-floods : goal.returns-clause-floods
returns-clause-floods c = within_flood

pub returns-clause-equal : goal.returns-clause-equal
returns-clause-equal c = tight_total

pub returns-clause-least : goal.returns-clause-least
returns-clause-least c = tight_least
