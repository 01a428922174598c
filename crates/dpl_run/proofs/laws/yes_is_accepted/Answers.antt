use Rattle.dpl_run.proofs.LeastLemmas.{writes_bound}
use Rattle.dpl_run.proofs.laws.yes_is_accepted.Goals as goal

pub returns : goal.returns
returns c words o name text report taken now e a = writes_bound words o name text report taken now e a
