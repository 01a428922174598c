use Rattle.std.proofs.Common.{◌≡◌, take, map}
use Rattle.dpl_groups.specs.Walk.{label_of}
use Rattle.dpl_groups.proofs.finding.labels.Given as goal

abbrev pub invariant-loop-mark : goal.invariant-loop-mark
invariant-loop-mark l = l.labels.items ≡ map label_of (take l.mark-index l.marks)
