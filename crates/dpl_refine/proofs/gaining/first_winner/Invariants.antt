use Rattle.std.proofs.Common.{◌<◌, ◌≤◌, ℕ, slice_index_or}
use Rattle.dpl_refine.proofs.gaining.first_winner.Given as goal

abbrev pub invariant-loop-p : goal.invariant-loop-p
invariant-loop-p l = (k : ℕ) → k < l.p → slice_index_or l.won k 0 ≤ slice_index_or l.lost k 0
