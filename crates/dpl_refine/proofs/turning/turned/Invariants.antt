use Rattle.std.proofs.Common.{◌≡◌, ◌<◌, ◌==◌, ℕ, false, length, slice_index_or}
use Rattle.dpl_refine.specs.Gains.{turn}
use Rattle.dpl_refine.proofs.turning.turned.Given as goal

abbrev pub invariant-loop-k : goal.invariant-loop-k
invariant-loop-k l =
    ((k : ℕ) → k < l.k → slice_index_or l.found.items k false ≡ turn
    (slice_index_or l.piece k 0 == l.p) (slice_index_or l.colours k false))
    × (length l.found.items ≡ l.k)
