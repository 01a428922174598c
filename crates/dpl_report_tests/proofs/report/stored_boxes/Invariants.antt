use Rattle.std.proofs.Common.{◌≡◌, ◌++◌, length, map}
use Rattle.dpl_cell.specs.Places.{corners_of}
use Rattle.dpl_report_tests.proofs.report.stored_boxes.Given as goal

abbrev pub invariant-boxes : goal.invariant-boxes
invariant-boxes l = map corners_of l.found.items ++ l.left ≡ l.fn.boxes

abbrev pub decreases-boxes : goal.decreases-boxes
decreases-boxes l = length l.left
