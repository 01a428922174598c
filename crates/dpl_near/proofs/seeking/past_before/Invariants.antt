use Rattle.std.proofs.Common.{ℕ, ◌<◌, ◌≤◌, ◌+◌, ◌<ℤ◌, ℤ, length, slice_index_or}
use Rattle.dpl_near.proofs.seeking.past_before.Given as goal

abbrev pub invariant-farther : goal.invariant-farther
invariant-farther l = record {
  room : l.to + l.step ≤ length l.numbers;
  high : (k : ℕ) (d : ℤ) → l.to ≤ k → k < length l.numbers → l.x <ℤ slice_index_or l.numbers k d;
}

abbrev pub decreases-farther : goal.decreases-farther
decreases-farther l = l.to
