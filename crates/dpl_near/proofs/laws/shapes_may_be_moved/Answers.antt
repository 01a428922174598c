use Rattle.dpl_near.proofs.MovedLemmas.{moved_shapes}
use Rattle.dpl_near.proofs.laws.shapes_may_be_moved.Goals as goal

pub returns : goal.returns
returns c = moved_shapes
