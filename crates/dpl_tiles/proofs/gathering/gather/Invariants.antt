use Rattle.std.proofs.Common.{◌-◌, length}
use Rattle.dpl_stacks.specs.Stacks.{before_of, behind_of, stacks_of, IsParted}
use Rattle.dpl_tiles.proofs.CornerLemmas.{AreGathered}
use Rattle.dpl_tiles.proofs.gathering.gather.Given as goal

abbrev pub invariant-wider : goal.invariant-wider
invariant-wider l = record {
  parted : IsParted (stacks_of l.fn.stacks) l.change.left l.change.right (before_of l.stacks) l.near.items (behind_of l.stacks);
  gathered : AreGathered l.corners l.at l.to l.change.left l.change.right;
}

abbrev pub decreases-wider : goal.decreases-wider
decreases-wider l = length l.corners - l.to
