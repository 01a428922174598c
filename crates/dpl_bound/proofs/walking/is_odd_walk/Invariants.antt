use Rattle.std.proofs.Common.{take}
use Rattle.dpl_bound.proofs.OddLemmas.{HasCome}
use Rattle.dpl_bound.proofs.walking.is_odd_walk.Given as goal

abbrev pub invariant-loop-k : goal.invariant-loop-k
invariant-loop-k l = HasCome l.graph l.walk.start (take l.k l.edges) l.at.node l.at.odd
