use Rattle.dpl_refine.proofs.AroundLemmas.{ends_within}
use Rattle.dpl_refine.proofs.joining.components.Goals as goal
use Rattle.dpl_classes.proofs.NumberLemmas.{labels_below}

pub classes-requires-clause-within : goal.classes-requires-clause-within
classes-requires-clause-within c = rw (c.as_slice-2.ensures.value, c.in_ok-ends.ensures, c.as_slice.ensures)
    (ends_within c.args.graph.now.nodes c.args.graph.now.edges c.args.graph.now.inside)

pub returns-clause-within : goal.returns-clause-within
returns-clause-within c = labels_below _ _ _ _ c.in_ok-found.ensures
