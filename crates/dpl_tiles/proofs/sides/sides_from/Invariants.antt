use Rattle.dpl_tiles.proofs.SideLemmas.{Round}
use Rattle.dpl_tiles.proofs.sides.sides_from.Given as goal

abbrev pub invariant-loop-p : goal.invariant-loop-p
invariant-loop-p l = Round l.first l.rest l.p-index l.before l.sides.items
