use Rattle.std.proofs.Common.{◌≡◌, ◌<◌, ℕ, false, length, slice_index_or}
use Rattle.dpl_stay.specs.Laying.{chosen}
use Rattle.dpl_stay.specs.Pairs.{at}
use Rattle.dpl_stay.proofs.laying.laid_over.Given as goal

abbrev pub invariant-loop-v : goal.invariant-loop-v
invariant-loop-v l = (length l.found.items ≡ l.v) × ((v : ℕ) → v < l.v → slice_index_or l.found.items v false
    ≡ chosen (slice_index_or l.taken v false) (at l.partners v) l.before (slice_index_or l.after v false))
