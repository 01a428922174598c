use Rattle.dpl_near.proofs.BorderLemmas.{AlongUpTo}
use Rattle.dpl_near.proofs.borders.push_along.Given as goal

abbrev pub invariant-loop-k : goal.invariant-loop-k
invariant-loop-k l = AlongUpTo l.border l.borders l.k l.initial.pairs.items l.pairs.items
