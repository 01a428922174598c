use Rattle.std.proofs.Common.{◌≡◌, drop, map}
use Rattle.dpl_cell.specs.Places.{place_of}
use Rattle.dpl_cell.specs.Ranges.{are_straight}
use Rattle.dpl_cell.proofs.points.has_straight_sides.Given as goal

abbrev pub invariant-loop-p : goal.invariant-loop-p
invariant-loop-p l =
    are_straight (place_of l.before) (map place_of (drop l.p-index l.rest)) (place_of l.first) ≡ are_straight
    (place_of l.first) (map place_of l.rest) (place_of l.first)
