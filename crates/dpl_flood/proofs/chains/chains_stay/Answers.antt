use Rattle.std.proofs.Common.{arith}
use Rattle.dpl_flood.proofs.ArenaLemmas.{chain_is, same_node, same_by, far_even}
use Rattle.dpl_flood.proofs.chains.chains_stay.Goals as goal

pub returns-clause-leads : goal.returns-clause-leads
returns-clause-leads c = λ ways nodes a p h. (chain_is ways nodes a a p h (omega arith)).leads

pub returns-clause-long : goal.returns-clause-long
returns-clause-long c = λ ways nodes a p h. (chain_is ways nodes a a p h (omega arith)).long

pub returns-clause-node : goal.returns-clause-node
returns-clause-node c = λ old new a p h. same_node old new a p h

pub returns-clause-chain : goal.returns-clause-chain
returns-clause-chain c = λ ways old new a p q h. same_by ways old new a a p q h

pub returns-clause-even : goal.returns-clause-even
returns-clause-even c = λ ways nodes a even p h. far_even ways nodes even a a p h (omega arith)
