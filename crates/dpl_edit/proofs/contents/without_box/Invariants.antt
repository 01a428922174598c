use Rattle.std.proofs.Common.{◌≡◌, ◌++◌, drop}
use Rattle.dpl_edit.specs.Contents.{boxes_without}
use Rattle.dpl_edit.proofs.contents.without_box.Given as goal

abbrev pub invariant-loop-placed : goal.invariant-loop-placed
invariant-loop-placed l = l.kept.items ++ boxes_without l.number (drop l.placed-index l.boxes) ≡ boxes_without l.number l.boxes
