use Rattle.std.proofs.Common.{◌≡◌, ◌++◌, length, reverse}
use Rattle.dpl_stacks.specs.Stacks.{joined}
use Rattle.dpl_stacks.proofs.passing.pass_right.Given as goal

abbrev pub invariant-passing : goal.invariant-passing
invariant-passing l = joined l.left.items ++ joined (reverse l.right.items) ≡ joined l.fn.left.items ++ joined (reverse l.fn.right.items)

abbrev pub decreases-passing : goal.decreases-passing
decreases-passing l = length l.left.items
