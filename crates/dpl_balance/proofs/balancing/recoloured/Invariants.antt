use Rattle.std.proofs.Common.{◌≡◌, ◌<◌, ℕ, false, length, slice_index_or}
use Rattle.dpl_balance.specs.Balance.{turn}
use Rattle.dpl_balance.proofs.balancing.recoloured.Given as goal

abbrev pub invariant-loop-k : goal.invariant-loop-k
invariant-loop-k l =
    ((k : ℕ) → k < l.k → slice_index_or l.found.items k false ≡ turn
    (slice_index_or l.turned (slice_index_or l.number k 0) false) (slice_index_or l.colours k false))
    × (length l.found.items ≡ l.k)
