use Rattle.std.proofs.Common.{reverse}
use Rattle.dpl_stacks.specs.Stacks.{joined}
use Rattle.dpl_stacks.proofs.PlaceLemmas.{before_ordered, last_ordered}
use Rattle.dpl_stacks.proofs.passing.is_near.Goals as goal

pub are_left-left-requires : goal.are_left-left-requires
are_left-left-requires c = rw c.as_slice.ensures.value
    (before_ordered (joined c.args.stacks.now.far_left.items) c.args.stacks.now.left.items
    (reverse c.args.stacks.now.right.items) (joined (reverse c.args.stacks.now.far_right.items)) c.requires)

pub are_right-right-requires : goal.are_right-right-requires
are_right-right-requires c = rw c.as_slice-2.ensures.value
    (last_ordered (joined c.args.stacks.now.far_left.items) c.args.stacks.now.left.items
    (reverse c.args.stacks.now.right.items) (joined (reverse c.args.stacks.now.far_right.items)) c.requires)
