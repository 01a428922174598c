use Rattle.std.proofs.Common.{◌≡◌, max, drop, map}
use Rattle.dpl_cif.specs.Drawn.{places_reach, corner_place}
use Rattle.dpl_cif.proofs.reach.corners_reach.Given as goal

abbrev pub invariant-loop-corner : goal.invariant-loop-corner
invariant-loop-corner l = max l.most (places_reach (map corner_place (drop l.corner-index l.corners))) ≡ places_reach (map corner_place l.corners)
