use Rattle.dpl_words.specs.Commands.{asked_by}
use Rattle.dpl_run.proofs.DueLemmas.{one_due}
use Rattle.dpl_run.proofs.ToldLemmas.{all_comes}
use Rattle.dpl_run.proofs.laws.one_due.Goals as goal

pub returns-clause-once : goal.returns-clause-once
returns-clause-once c words text second output other due also d e = one_due (asked_by words) text second due also output other d e

pub returns-clause-answered : goal.returns-clause-answered
returns-clause-answered c words text second output before now due result d a n = all_comes words text second before now due result output d a n
