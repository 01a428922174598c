use Rattle.std.proofs.Common.{rules, append_assoc}
use Rattle.dpl_boxes.proofs.writing.push_box.Goals as goal

pub returns : goal.returns
returns c = search (rules, append_assoc)
