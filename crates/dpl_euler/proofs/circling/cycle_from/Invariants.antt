use Rattle.std.proofs.Common.{◌-◌, length, [], ◌∷◌, ◌++◌}
use Rattle.std.specs.Prelude.{slice_index}
use Rattle.dpl_euler.proofs.CircleLemmas.{IsTrail}
use Rattle.dpl_euler.proofs.circling.cycle_from.Given as goal

abbrev pub invariant-loop-cycle : goal.invariant-loop-cycle
invariant-loop-cycle l = IsTrail (slice_index l.nexts) (length l.nexts) l.start l.place (l.cycle.items ++ l.place ∷ [])

abbrev pub decreases-loop-cycle : goal.decreases-loop-cycle
decreases-loop-cycle l = length l.nexts - length l.cycle.items
