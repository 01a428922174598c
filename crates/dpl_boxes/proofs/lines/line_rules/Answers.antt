use Rattle.dpl_boxes.proofs.LineLemmas.{lines_are_read}
use Rattle.dpl_boxes.proofs.ReadingLemmas.{comment_is_read, layer_is_read}
use Rattle.dpl_boxes.proofs.BoxLemmas.{box_is_read}
use Rattle.dpl_boxes.proofs.TextLemmas.{all_masks_are_drawn}
use Rattle.dpl_boxes.proofs.lines.line_rules.Goals as goal

pub returns : goal.returns
returns c = record { lines = lines_are_read; comments = comment_is_read; layers = layer_is_read; boxes = box_is_read; masks = all_masks_are_drawn }
