use Rattle.dpl_index.specs.Stops.{NamesAll}
use Rattle.dpl_index.proofs.stops.places.Given as goal

abbrev pub invariant-loop-i : goal.invariant-loop-i
invariant-loop-i l = NamesAll l.i l.places.items
