use Rattle.dpl_run.proofs.SomeLemmas.{some_due}
use Rattle.dpl_run.proofs.laws.some_due.Goals as goal

pub returns : goal.returns
returns c command text second = some_due command text second
