use Rattle.std.proofs.Common.{ℕ, ◌≤◌, ◌<◌, ◌≤ℤ◌}
use Rattle.dpl_cover.specs.Counts.{own_at}
use Rattle.dpl_cover.proofs.counts.bounds_of.Given as goal

abbrev pub invariant-loop-k : goal.invariant-loop-k
invariant-loop-k l = record {
  low : (k : ℕ) → l.from ≤ k → k < l.k → l.low ≤ℤ own_at l.each k;
  high : (k : ℕ) → l.from ≤ k → k < l.k → own_at l.each k ≤ℤ l.high;
}
