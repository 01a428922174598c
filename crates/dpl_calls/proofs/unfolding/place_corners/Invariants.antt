use Rattle.std.proofs.Common.{◌≡◌, take, map}
use Rattle.dpl_calls.specs.Placement.{apply}
use Rattle.dpl_calls.proofs.unfolding.place_corners.Given as goal

abbrev pub invariant-loop-corner : goal.invariant-loop-corner
invariant-loop-corner l = l.placed.items ≡ map (apply l.p) (take l.corner-index l.corners)
