use Rattle.dpl_sign.proofs.PortOrderLemmas.{not_itself, before_trans, before_total}
use Rattle.dpl_sign.proofs.laws.ports_are_in_order.Goals as goal

pub returns-clause-irreflexive : goal.returns-clause-irreflexive
returns-clause-irreflexive c = not_itself c.args.p.now c.args.e

pub returns-clause-transitive : goal.returns-clause-transitive
returns-clause-transitive c = before_trans c.args.p.now c.args.q.now c.args.r.now c.args.e c.args.f c.args.g

pub returns-clause-total : goal.returns-clause-total
returns-clause-total c = before_total c.args.p.now c.args.q.now c.args.e c.args.f
