use Rattle.dpl_run.proofs.FollowLemmas.{followed}
use Rattle.dpl_run.proofs.laws.scripts_are_followed.Goals as goal

pub returns : goal.returns
returns c o text script output = followed o text script output
