use Rattle.dpl_sign.proofs.RedrawnNets.{mirrored_opposite, transposed_opposite}
use Rattle.dpl_sign.proofs.laws.ports_may_be_mirrored.Goals as goal

pub returns-clause-mirrored : goal.returns-clause-mirrored
returns-clause-mirrored c = λ r. mirrored_opposite c.args.one.now c.args.other.now r c.requires

pub returns-clause-transposed : goal.returns-clause-transposed
returns-clause-transposed c = λ r. transposed_opposite c.args.one.now c.args.other.now r c.requires
