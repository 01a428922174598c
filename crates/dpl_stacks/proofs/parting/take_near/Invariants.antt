use Rattle.std.proofs.Common.{◌≡◌, ◌++◌, ◌≤ℤ◌, All, length}
use Rattle.dpl_stacks.specs.Stacks.{before_of, behind_of}
use Rattle.dpl_stacks.proofs.parting.take_near.Given as goal

abbrev pub invariant-opened : goal.invariant-opened
invariant-opened l = record {
  before : before_of l.stacks ≡ before_of l.fn.stacks;
  whole : l.near.items ++ behind_of l.stacks ≡ l.fn.near.items ++ behind_of l.fn.stacks;
  near : All (λ r. r.x1 ≤ℤ l.column) l.fn.near.items → All (λ r. r.x1 ≤ℤ l.column) l.near.items;
}

abbrev pub decreases-opened : goal.decreases-opened
decreases-opened l = length l.stacks.far_right.items
