use Rattle.dpl_flood.proofs.NotedLemmas.{far_back, tied}
use Rattle.dpl_flood.proofs.joins.joins_are_far.Goals as goal

pub returns-clause-same : goal.returns-clause-same
returns-clause-same c = far_back

pub returns-clause-tied : goal.returns-clause-tied
returns-clause-tied c = tied
