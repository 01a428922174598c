use Rattle.std.proofs.Common.{◌≡◌, ◌≤◌, ◌+◌, length}
use Rattle.dpl_form.specs.Lines.{lines_in}
use Rattle.dpl_parse.specs.Blocks.{box_block, boxes_left}
use Rattle.dpl_parse.proofs.boxes.count_boxes.Given as goal

abbrev pub invariant-lines : goal.invariant-lines
invariant-lines l = record {
  count : l.left + length (boxes_left l.rest) ≡ length (boxes_left l.text);
  rest : (box_block (lines_in l.rest)).1 ≡ (box_block (lines_in l.text)).1;
  few : l.left + length l.rest ≤ length l.text;
}

abbrev pub decreases-lines : goal.decreases-lines
decreases-lines l = length l.rest
