use Rattle.dpl_calls.proofs.LoopLaw.{loops_lead_back}
use Rattle.dpl_calls.proofs.loops.calling_rules.Goals as goal

pub returns : goal.returns
returns c = loops_lead_back
