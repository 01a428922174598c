use Rattle.std.proofs.Common.{◌≤◌, ◌-◌}
use Rattle.dpl_cuts.specs.Blocks.{AreShutSoFar}
use Rattle.dpl_cuts.specs.Tilings.{tiles_of}
use Rattle.dpl_cuts.proofs.crowding.shut_beside.Given as goal

abbrev pub invariant-wider : goal.invariant-wider
invariant-wider l = (1 ≤ l.reach) × AreShutSoFar (tiles_of l.tiling) l.tiling.label.now l.tiling.space l.i l.shut.items

abbrev pub decreases-wider : goal.decreases-wider
decreases-wider l = l.tiling.space - l.reach
