use Rattle.dpl_refine.proofs.AroundLemmas.{refined_on}
use Rattle.dpl_refine.proofs.refining.refine.Goals as goal

pub returns : goal.returns
returns c = refined_on c.args.graph.now c.args.colours.now c.in_ok-begun.begun.items c.in_ok-found.found.items
    c.in_ok-begun.ensures.cheaper c.in_ok-begun.ensures.around c.in_ok-found.ensures
