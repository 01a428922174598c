use Rattle.dpl_boxes.proofs.WrittenLemmas.{commands_are_read}
use Rattle.dpl_boxes.proofs.BackLayouts.{layouts_are_read}
use Rattle.dpl_boxes.proofs.TakenLemmas.{taken_texts_are_layouts}
use Rattle.dpl_boxes.proofs.PlainLemmas.{plain_layouts_are_layouts}
use Rattle.dpl_boxes.proofs.written.layouts_are_read.Goals as goal

pub returns : goal.returns
returns c = record {
  whole = layouts_are_read;
  taken = taken_texts_are_layouts;
  each = commands_are_read;
  plain = plain_layouts_are_layouts;
}
