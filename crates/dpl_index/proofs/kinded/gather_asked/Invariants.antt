use Rattle.std.proofs.Common.{length, ◌-◌}
use Rattle.dpl_index.proofs.KindLemmas.{Asked}
use Rattle.dpl_index.proofs.kinded.gather_asked.Given as goal

abbrev pub invariant-stops : goal.invariant-stops
invariant-stops l = Asked (record { items = l.items; kinds = l.kinds }) l.ask l.stops l.from l.at l.found.items

abbrev pub decreases-stops : goal.decreases-stops
decreases-stops l = length l.stops - l.at
