use Rattle.dpl_parts.proofs.Stays.{optimum_stays}
use Rattle.dpl_parts.proofs.laws.optima_stay.Goals as goal

pub returns : goal.returns
returns c = optimum_stays
