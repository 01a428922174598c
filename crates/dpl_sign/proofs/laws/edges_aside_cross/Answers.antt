use Rattle.dpl_sign.proofs.ExcessLemmas.{raises_joined, raises_far, raises_from}
use Rattle.dpl_sign.proofs.laws.edges_aside_cross.Goals as goal

pub returns-clause-joined : goal.returns-clause-joined
returns-clause-joined c = raises_joined c.args.net.now c.args.kept.now c.requires

pub returns-clause-faces : goal.returns-clause-faces
returns-clause-faces c = raises_far c.args.net.now c.args.kept.now c.requires

pub returns-clause-only : goal.returns-clause-only
returns-clause-only c = raises_from c.args.net.now c.args.kept.now c.requires
