use Rattle.std.proofs.Common.{length}
use Rattle.dpl_tiles.proofs.PairLemmas.{Pairing}
use Rattle.dpl_tiles.proofs.crossing.push_pairs.Given as goal

abbrev pub invariant-loop-rest : goal.invariant-loop-rest
invariant-loop-rest l = Pairing l.initial.parts.items l.sides l.parts.items l.rest

abbrev pub decreases-loop-rest : goal.decreases-loop-rest
decreases-loop-rest l = length l.rest
