use Rattle.std.proofs.Common.{◌≡◌, ◌+◌, ◌≤◌, drop, map}
use Rattle.dpl_cell.specs.Places.{place_of}
use Rattle.dpl_cell.specs.Layers.{left_sides}
use Rattle.dpl_cell.proofs.held.is_in_points.Given as goal

abbrev pub invariant-loop-p : goal.invariant-loop-p
invariant-loop-p l =
    record {
      few : l.count ≤ l.p-index;
      counted : l.count + left_sides l.x l.y (place_of l.before) (map place_of (drop l.p-index l.rest))
          (place_of l.first) ≡ left_sides l.x l.y (place_of l.first) (map place_of l.rest) (place_of l.first);
    }
