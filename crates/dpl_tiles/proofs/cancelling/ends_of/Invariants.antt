use Rattle.dpl_tiles.proofs.CancelLemmas.{AreEndsSoFar}
use Rattle.dpl_tiles.proofs.cancelling.ends_of.Given as goal

abbrev pub invariant-loop-side : goal.invariant-loop-side
invariant-loop-side l = AreEndsSoFar l.sides l.side-index l.ends.items
