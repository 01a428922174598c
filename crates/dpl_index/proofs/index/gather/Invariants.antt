use Rattle.std.proofs.Common.{length, ◌-◌}
use Rattle.dpl_index.proofs.MeetingLemmas.{Walked}
use Rattle.dpl_index.proofs.index.gather.Given as goal

abbrev pub invariant-stops : goal.invariant-stops
invariant-stops l = Walked l.items l.window l.stops l.at l.found.items

abbrev pub decreases-stops : goal.decreases-stops
decreases-stops l = length l.stops - l.at
