use Rattle.std.proofs.Common.{◌≡◌, take}
use Rattle.dpl_edit.specs.Contents.{content}
use Rattle.dpl_edit.proofs.contents.push_boxes.Given as goal

abbrev pub invariant-loop-placed : goal.invariant-loop-placed
invariant-loop-placed l = l.prims.items ≡ content l.initial.prims.items (take l.placed-index l.boxes)
