use Rattle.std.proofs.Common.{◌≡◌, ◌*◌, ◌<◌, ◌≤◌, ℕ, length, slice_index_or, take}
use Rattle.dpl_refine.specs.Gains.{weight_out}
use Rattle.dpl_refine.proofs.gaining.add_edges.Given as goal

abbrev pub invariant-loop-edge : goal.invariant-loop-edge
invariant-loop-edge l =
    ((k : ℕ) → k < length l.fn.sums → slice_index_or l.sums k 0 ≡ weight_out l.wanted (take l.edge-index l.edges) l.piece l.colours k)
    × (((k : ℕ) → k < length l.fn.sums → slice_index_or l.sums k 0 ≤ l.edge-index * 1000000)
    × (length l.sums ≡ length l.fn.sums))
