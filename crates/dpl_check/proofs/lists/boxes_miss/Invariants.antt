use Rattle.std.proofs.Common.{◌≡◌, ◌+◌, length, map}
use Rattle.dpl_cell.specs.Places.{corners_of}
use Rattle.dpl_good.specs.Conditions as conditions
use Rattle.dpl_check.proofs.lists.boxes_miss.Given as goal

abbrev pub invariant-boxes : goal.invariant-boxes
invariant-boxes l = record {
  miss : conditions.boxes_miss l.at l.boxes
      (map corners_of l.left) ≡ conditions.boxes_miss l.place l.fn.found (map corners_of l.wanted);
  place : l.at + length l.boxes ≡ l.place + length l.fn.found;
}

abbrev pub decreases-boxes : goal.decreases-boxes
decreases-boxes l = length l.boxes
