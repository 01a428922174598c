use Rattle.dpl_cycle.proofs.AmongLemmas.{cycles_members}
use Rattle.dpl_cycle.proofs.laws.members_and_others.Goals as goal

pub returns : goal.returns
returns c = λ next back set p still. cycles_members _ _ _ _ p still
