use Rattle.dpl_tiles.proofs.CornerLemmas.{AddsSides}
use Rattle.dpl_tiles.proofs.corners.push_round.Given as goal

abbrev pub invariant-loop-p : goal.invariant-loop-p
invariant-loop-p l = AddsSides l.first l.rest l.p-index l.before l.initial.corners.items l.corners.items
