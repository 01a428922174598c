use Rattle.std.proofs.Common.{◌≤◌, length}
use Rattle.dpl_index.specs.Kinds.{HasKinds}
use Rattle.dpl_index.specs.Stops.{IsIndex}
use Rattle.dpl_index.proofs.stops.gather.Given as goal

abbrev pub invariant-back : goal.invariant-back
invariant-back l = record { index : IsIndex l.items l.stops; kinds : HasKinds l.kinds l.stops; below : l.k ≤ length l.stops }

abbrev pub decreases-back : goal.decreases-back
decreases-back l = l.k
