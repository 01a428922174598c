use Rattle.std.proofs.Common.{◌≡◌, ◌++◌, length, reverse}
use Rattle.dpl_stacks.specs.Stacks.{joined}
use Rattle.dpl_stacks.proofs.passing.pass_many.Given as goal

abbrev pub invariant-back : goal.invariant-back
invariant-back l = joined l.left.items ++ joined (reverse l.right.items) ≡ joined l.fn.left.items ++ joined (reverse l.fn.right.items)

abbrev pub decreases-back : goal.decreases-back
decreases-back l = length l.left.items

abbrev pub invariant-on : goal.invariant-on
invariant-on l = joined l.left.items ++ joined (reverse l.right.items) ≡ joined l.fn.left.items ++ joined (reverse l.fn.right.items)

abbrev pub decreases-on : goal.decreases-on
decreases-on l = length l.right.items
