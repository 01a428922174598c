use Rattle.dpl_layer.proofs.MovedLemmas.{moved_layer}
use Rattle.dpl_layer.proofs.laws.layers_may_be_moved.Goals as goal

pub returns : goal.returns
returns c = moved_layer c.args.options.now
