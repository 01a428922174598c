use Rattle.std.proofs.Common.{◌≡◌, ◌<◌, nat_lt, ℕ, false, cond, length, slice_index_or}
use Rattle.dpl_refine.proofs.choosing.chosen.Given as goal

abbrev pub invariant-loop-k : goal.invariant-loop-k
invariant-loop-k l =
    ((k : ℕ) → k < l.k → slice_index_or l.found.items k false ≡ cond
    (nat_lt (slice_index_or l.after (slice_index_or l.part k 0) 0) (slice_index_or l.before (slice_index_or l.part k 0) 0))
    (slice_index_or l.tried k false) (slice_index_or l.old k false))
    × (length l.found.items ≡ l.k)
