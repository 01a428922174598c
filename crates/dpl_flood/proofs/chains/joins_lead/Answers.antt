use Rattle.dpl_flood.proofs.JoinLemmas.{join_leads, join_long, join_stays}
use Rattle.dpl_flood.proofs.chains.joins_lead.Goals as goal

pub returns-clause-leads : goal.returns-clause-leads
returns-clause-leads c = λ ways nodes j p h. join_leads ways nodes j p h

pub returns-clause-long : goal.returns-clause-long
returns-clause-long c = λ ways nodes j p h. join_long ways nodes j p h

pub returns-clause-stays : goal.returns-clause-stays
returns-clause-stays c = λ ways old new j p h. join_stays ways old new j p h
