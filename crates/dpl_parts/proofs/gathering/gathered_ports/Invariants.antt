use Rattle.std.proofs.Common.{◌≡◌, ◌<◌, ℕ, length, slice_index_or}
use Rattle.dpl_sign.specs.Drawings.{no_port}
use Rattle.dpl_parts.proofs.gathering.gathered_ports.Given as goal

abbrev pub invariant-loop-pick : goal.invariant-loop-pick
invariant-loop-pick l = (length l.found.items ≡ l.pick-index) × ((i : ℕ) → i < l.pick-index →
    slice_index_or l.found.items i (no_port, no_port) ≡ slice_index_or l.ports (slice_index_or l.picks i 0) (no_port, no_port))
