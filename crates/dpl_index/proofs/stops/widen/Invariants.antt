use Rattle.std.proofs.Common.{◌≡◌, ◌-◌, ◌+◌, ◌<◌, length, get_or}
use Rattle.dpl_index.specs.declared.stops.Stop.{Stop}
use Rattle.dpl_index.specs.Kinds.{HasKinds}
use Rattle.dpl_index.specs.Stops.{IsIndex}
use Rattle.dpl_index.proofs.stops.widen.Given as goal

abbrev pub invariant-more : goal.invariant-more
invariant-more l = record {
  index : IsIndex l.items l.stops;
  kinds : HasKinds l.kinds l.stops;
  low : l.k + l.rest < length l.stops;
  rest : (d : Stop) → l.rest ≡ (get_or l.stops l.k d).rest;
}

abbrev pub decreases-more : goal.decreases-more
decreases-more l = length l.stops - l.rest
