use Rattle.std.proofs.Common.{length}
use Rattle.dpl_classes.proofs.WayLemmas.{UnitedSoFar}
use Rattle.dpl_classes.proofs.rooting.unite.Given as goal

abbrev pub invariant-loop-pair : goal.invariant-loop-pair
invariant-loop-pair l = UnitedSoFar l.pairs (length l.initial.ups) l.pair-index l.ups
