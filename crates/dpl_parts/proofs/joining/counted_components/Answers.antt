use Rattle.dpl_parts.proofs.JoinedLemmas.{ends_within, are_components}
use Rattle.dpl_parts.proofs.joining.counted_components.Goals as goal
use Rattle.dpl_classes.proofs.NumberLemmas.{labels_below}

pub classes-requires-clause-within : goal.classes-requires-clause-within
classes-requires-clause-within c = rw (c.as_slice-2.ensures.value, c.in_ok-ends.ensures, c.as_slice.ensures) (ends_within c.args.net.now.graph)

pub returns-clause-components : goal.returns-clause-components
returns-clause-components c = are_components c.args.net.now _ _
    (rw (c.as_slice-2.ensures.value, c.in_ok-ends.ensures, c.as_slice.ensures) at c.in_ok-found.ensures)

pub returns-clause-within : goal.returns-clause-within
returns-clause-within c = labels_below _ _ _ _ c.in_ok-found.ensures
