use Rattle.std.proofs.Common.{◌≡◌, ℕ, ◌<◌}
use Rattle.dpl_ring.specs.Places.{pair_at, is_written}
use Rattle.dpl_ring.proofs.pairs.write_identity.Given as goal

abbrev pub invariant-loop-i : goal.invariant-loop-i
invariant-loop-i l = (l.block.at ≡ l.fn.block.at) × (l.block.count ≡ l.fn.block.count) ×
    ((k : ℕ) → k < l.i → pair_at l.block.items k ≡ record { next = k; prev = k }) ×
    ((k : ℕ) → k < l.i → is_written l.block.filled k)
