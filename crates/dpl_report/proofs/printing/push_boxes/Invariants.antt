use Rattle.std.proofs.Common.{◌≡◌, ◌++◌, drop, map}
use Rattle.dpl_cell.specs.Places.{corners_of}
use Rattle.dpl_boxes.specs.Masks.{box_line}
use Rattle.dpl_form.specs.Lines.{text_of}
use Rattle.dpl_report.proofs.printing.push_boxes.Given as goal

abbrev pub invariant-loop-r : goal.invariant-loop-r
invariant-loop-r l = l.out.items ++ text_of (map box_line (map corners_of (drop l.r-index l.boxes)))
    ≡ l.initial.out.items ++ text_of (map box_line (map corners_of l.boxes))
