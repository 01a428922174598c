use Rattle.dpl_run.specs.Answer.{IsDue}
use Rattle.dpl_run.proofs.ToldLemmas.{cut_front, due_taken, due_status}
use Rattle.dpl_run.proofs.laws.outputs_are_taken.Goals as goal

pub returns-clause-cut : goal.returns-clause-cut
returns-clause-cut c words text second taken taken_now cut = cut_front (IsDue words text second) taken taken_now cut

pub returns-clause-due : goal.returns-clause-due
returns-clause-due c words text second taken taken_now status r w m = due_taken (IsDue words text second) taken taken_now status r w m

pub returns-clause-status : goal.returns-clause-status
returns-clause-status c words text second before now status r w m a = due_status (IsDue words text second) before now status r w m a
