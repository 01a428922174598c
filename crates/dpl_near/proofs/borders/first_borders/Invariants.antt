use Rattle.std.proofs.Common.{map}
use Rattle.dpl_cell.specs.Places.{corners_of}
use Rattle.dpl_near.proofs.BorderLemmas.{FirstSoFar}
use Rattle.dpl_near.proofs.borders.first_borders.Given as goal

abbrev pub invariant-loop-i : goal.invariant-loop-i
invariant-loop-i l = FirstSoFar l.upright (map corners_of l.rects) l.i l.borders.items
