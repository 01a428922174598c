use Rattle.std.proofs.Common.{◌≡◌, ◌++◌, ◌<ℤ◌, All, length, reverse}
use Rattle.dpl_stacks.specs.Stacks.{joined}
use Rattle.dpl_stacks.proofs.passing.pass_left.Given as goal

abbrev pub invariant-passing : goal.invariant-passing
invariant-passing l = record {
  whole : joined l.left.items ++ joined (reverse l.right.items) ≡ joined l.fn.left.items ++ joined (reverse l.fn.right.items);
  left : All (λ r. r.x2 <ℤ l.column) (joined l.left.items);
}

abbrev pub decreases-passing : goal.decreases-passing
decreases-passing l = length l.right.items
