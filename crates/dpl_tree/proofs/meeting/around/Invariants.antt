use Rattle.std.proofs.Common.{◌≡◌, ◌++◌, ◌∷◌, take, reverse}
use Rattle.dpl_tree.proofs.meeting.around.Given as goal

abbrev pub invariant-loop-i : goal.invariant-loop-i
invariant-loop-i l = l.joins.items ≡ reverse l.fn.meeting.left.items ++ (l.s, l.t) ∷ take l.i l.fn.meeting.right.items
