use Rattle.std.proofs.Common.{◌≡◌, ◌<◌, ℕ, false, length, slice_index_or}
use Rattle.dpl_stay.proofs.marking.looked_up.Given as goal

abbrev pub invariant-loop-component : goal.invariant-loop-component
invariant-loop-component l = (length l.found.items ≡ l.component-index) × ((u : ℕ) → u < l.component-index →
    slice_index_or l.found.items u false ≡ slice_index_or l.whole (slice_index_or l.number u 0) false)
