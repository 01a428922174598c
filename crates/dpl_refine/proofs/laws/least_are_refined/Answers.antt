use Rattle.dpl_refine.proofs.LeastLemmas.{least_refined}
use Rattle.dpl_refine.proofs.laws.least_are_refined.Goals as goal

pub returns : goal.returns
returns c = least_refined c.args.graph.now c.args.colours.now c.requires.colouring c.requires.least
