use Rattle.std.proofs.Common.{map}
use Rattle.dpl_cell.specs.Places.{corners_of}
use Rattle.dpl_near.specs.Joins.{HasJoinsOf}
use Rattle.dpl_near.proofs.joining.joins.Given as goal

abbrev pub invariant-loop-i : goal.invariant-loop-i
invariant-loop-i l = HasJoinsOf (map corners_of l.rects) l.i l.joins.items
