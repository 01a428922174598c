use Rattle.dpl_sign.specs.Drawings.{is_in}
use Rattle.dpl_sign.proofs.PathLemmas.{component_is}
use Rattle.dpl_sign.proofs.laws.components_are_joined.Goals as goal

pub returns : goal.returns
returns c = component_is c.args.graph.now (is_in c.args.set.now) c.args.u c.args.v
