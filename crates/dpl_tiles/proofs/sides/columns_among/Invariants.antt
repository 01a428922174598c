use Rattle.dpl_tiles.proofs.CrossingLemmas.{ColumnsSoFar}
use Rattle.dpl_tiles.proofs.sides.columns_among.Given as goal

abbrev pub invariant-loop-i : goal.invariant-loop-i
invariant-loop-i l = ColumnsSoFar l.sides l.found l.y l.i-index l.columns.items
