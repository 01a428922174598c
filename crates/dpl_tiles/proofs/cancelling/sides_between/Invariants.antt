use Rattle.std.proofs.Common.{length}
use Rattle.dpl_tiles.proofs.CancelLemmas.{Cancelling}
use Rattle.dpl_tiles.proofs.cancelling.sides_between.Given as goal

abbrev pub invariant-loop-rest : goal.invariant-loop-rest
invariant-loop-rest l = Cancelling l.ends l.sides.items l.rest

abbrev pub decreases-loop-rest : goal.decreases-loop-rest
decreases-loop-rest l = length l.rest
