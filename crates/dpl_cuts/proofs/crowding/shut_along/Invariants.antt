use Rattle.dpl_cuts.specs.Blocks.{AreShutSoFar}
use Rattle.dpl_cuts.specs.Tilings.{tiles_of}
use Rattle.dpl_cuts.proofs.crowding.shut_along.Given as goal

abbrev pub invariant-loop-turn : goal.invariant-loop-turn
invariant-loop-turn l = AreShutSoFar (tiles_of l.tiling) l.tiling.label.now l.tiling.space l.i l.shut.items
