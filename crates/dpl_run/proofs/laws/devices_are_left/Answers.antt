use Rattle.dpl_run.proofs.ReadingLemmas.{asked_for}
use Rattle.dpl_run.proofs.laws.devices_are_left.Goals as goal

pub returns-clause-asked : goal.returns-clause-asked
returns-clause-asked c name before now others e = asked_for name before now others e
