use Rattle.std.proofs.Common.{reverse}
use Rattle.dpl_stacks.specs.Stacks.{joined}
use Rattle.dpl_stacks.proofs.OrderLemmas.{part_ordered}
use Rattle.dpl_stacks.proofs.passing.pass_right.Goals as goal

pub are_left-requires : goal.are_left-requires
are_left-requires c = rw c.as_slice.ensures.value
    ((part_ordered (joined c.passing.left.items) (joined (reverse c.passing.right.items)) (rw c.passing.invariant c.requires)).0)
