use Rattle.dpl_flood.proofs.FlowLemmas.{taken_keys, left_keys, set_keys, same_keys}
use Rattle.dpl_flood.proofs.PassLemmas.{passed_stands}
use Rattle.dpl_flood.proofs.laws.states_keep_keys.Goals as goal

pub returns-clause-takes : goal.returns-clause-takes
returns-clause-takes c = taken_keys

pub returns-clause-leaves : goal.returns-clause-leaves
returns-clause-leaves c = left_keys

pub returns-clause-sets : goal.returns-clause-sets
returns-clause-sets c = set_keys

pub returns-clause-same : goal.returns-clause-same
returns-clause-same c = same_keys

pub returns-clause-time : goal.returns-clause-time
returns-clause-time c = passed_stands
