use Rattle.dpl_layer.proofs.LayerLemmas.{same_layer}
use Rattle.dpl_layer.proofs.laws.one_layer.Goals as goal

pub returns : goal.returns
returns c = same_layer c.args.options.now
