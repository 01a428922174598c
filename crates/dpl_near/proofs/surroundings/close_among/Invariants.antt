use Rattle.std.proofs.Common.{map}
use Rattle.dpl_cell.specs.Places.{corners_of}
use Rattle.dpl_near.proofs.AroundLemmas.{CloseAmong}
use Rattle.dpl_near.proofs.surroundings.close_among.Given as goal

abbrev pub invariant-loop-j : goal.invariant-loop-j
invariant-loop-j l = CloseAmong (record { rects = map corners_of l.rects; reach = l.reach }) l.i l.found l.j-index l.near.items
