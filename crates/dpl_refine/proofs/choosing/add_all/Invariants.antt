use Rattle.std.proofs.Common.{◌≡◌, ◌*◌, ◌<◌, ◌≤◌, ℕ, length, slice_index_or, take}
use Rattle.dpl_refine.specs.Components.{cost_of_part}
use Rattle.dpl_refine.proofs.choosing.add_all.Given as goal

abbrev pub invariant-loop-edge : goal.invariant-loop-edge
invariant-loop-edge l =
    ((k : ℕ) → k < length l.fn.sums → slice_index_or l.sums k 0 ≡ cost_of_part l.part k (take l.edge-index l.edges) l.colours)
    × (((k : ℕ) → k < length l.fn.sums → slice_index_or l.sums k 0 ≤ l.edge-index * 1000000)
    × (length l.sums ≡ length l.fn.sums))
