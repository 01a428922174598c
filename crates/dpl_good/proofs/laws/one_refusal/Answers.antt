use Rattle.dpl_good.proofs.RefusalLemmas.{one_refusal, good_is_kept, unread_at_one, read_at_later}
use Rattle.dpl_good.proofs.laws.one_refusal.Goals as goal

pub returns-clause-once : goal.returns-clause-once
returns-clause-once c o f net text x y p q = one_refusal o f net text x y p q

pub returns-clause-good : goal.returns-clause-good
returns-clause-good c o f net text x g r = good_is_kept o f net text x g r

pub returns-clause-unread : goal.returns-clause-unread
returns-clause-unread c = unread_at_one

pub returns-clause-later : goal.returns-clause-later
returns-clause-later c = read_at_later
