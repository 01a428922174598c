use Rattle.dpl_sign.proofs.RedrawnPorts.{moved_order}
use Rattle.dpl_sign.proofs.RedrawnNets.{moved_alike}
use Rattle.dpl_sign.proofs.laws.ports_may_be_moved.Goals as goal

pub returns-clause-order : goal.returns-clause-order
returns-clause-order c = λ shift p q p' q' e f a b. moved_order shift p p' q q' e f a b

pub returns-clause-net : goal.returns-clause-net
returns-clause-net c = λ shift r. moved_alike shift c.args.one.now c.args.other.now r
