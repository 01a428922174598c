use Rattle.std.proofs.Common.{◌≡◌, take, map}
use Rattle.dpl_calls.specs.Parts.{scaled_corner}
use Rattle.dpl_calls.proofs.putting.scaled_path.Given as goal

abbrev pub invariant-loop-spot : goal.invariant-loop-spot
invariant-loop-spot l = l.corners.items ≡ map (scaled_corner l.scale) (take l.spot-index l.path)
