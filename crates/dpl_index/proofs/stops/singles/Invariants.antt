use Rattle.dpl_index.proofs.KindLemmas.{SinglesOf}
use Rattle.dpl_index.proofs.StopLemmas.{SinglesSoFar}
use Rattle.dpl_index.proofs.stops.singles.Given as goal

abbrev pub invariant-loop-p : goal.invariant-loop-p
invariant-loop-p l = record { index : SinglesSoFar l.items l.places l.p-index l.stops.items; kinds : SinglesOf l.kinds l.p-index l.stops.items }
