use Rattle.std.proofs.Common.{◌≡◌, take}
use Rattle.dpl_laminar.specs.Storing.{sets_of}
use Rattle.dpl_tree.specs.steps.Joins.{tops_from}
use Rattle.dpl_tree.proofs.meeting.tops_of.Given as goal

abbrev pub invariant-loop-i : goal.invariant-loop-i
invariant-loop-i l = l.tops.items ≡ tops_from (sets_of l.family) (take l.i l.joins)
