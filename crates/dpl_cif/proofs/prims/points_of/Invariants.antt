use Rattle.std.proofs.Common.{◌≡◌, take, map}
use Rattle.dpl_cell.specs.Places as places
use Rattle.dpl_cif.specs.Drawn.{corner_place}
use Rattle.dpl_cif.proofs.prims.points_of.Given as goal

abbrev pub invariant-loop-corner : goal.invariant-loop-corner
invariant-loop-corner l = map places.place_of l.points.items ≡ map corner_place (take l.corner-index l.corners)
