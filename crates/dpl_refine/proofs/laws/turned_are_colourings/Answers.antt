use Rattle.dpl_refine.proofs.LeastLemmas.{turned_colouring}
use Rattle.dpl_refine.proofs.laws.turned_are_colourings.Goals as goal

pub returns : goal.returns
returns c = turned_colouring c.args.graph.now c.args.node c.args.old.now c.args.new.now c.requires.colouring c.requires.turned
