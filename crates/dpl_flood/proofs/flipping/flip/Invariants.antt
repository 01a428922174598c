use Rattle.std.proofs.Common.{take, map}
use Rattle.dpl_dual.specs.Duals.{way_at}
use Rattle.dpl_flood.specs.Flips.{AreFlipped}
use Rattle.dpl_flood.proofs.flipping.flip.Given as goal

abbrev pub invariant-loop-i : goal.invariant-loop-i
invariant-loop-i l = AreFlipped (map (way_at l.ways) (take l.i l.chain)) l.fn.joined l.joined
