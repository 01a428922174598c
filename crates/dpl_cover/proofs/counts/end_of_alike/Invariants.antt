use Rattle.std.proofs.Common.{◌≡◌, ℕ, pos, ◌+ℤ◌, int_lt, ◌≤◌, ◌<◌}
use Rattle.dpl_cover.specs.Counts.{own_at}
use Rattle.dpl_cover.proofs.counts.end_of_alike.Given as goal

abbrev pub invariant-loop-k : goal.invariant-loop-k
invariant-loop-k l = (k : ℕ) → l.from ≤ k → k < l.k → int_lt (pos 0) (own_at l.each k +ℤ l.whole) ≡ l.counted
