use Rattle.std.proofs.Common.{ℕ, ◌<◌, ◌≤◌, ◌-◌, ◌≤ℤ◌, ℤ, length, slice_index_or}
use Rattle.dpl_near.proofs.seeking.past_from.Given as goal

abbrev pub invariant-farther : goal.invariant-farther
invariant-farther l = record {
  within : l.from ≤ length l.numbers;
  step : l.step ≤ l.from;
  low : (k : ℕ) (d : ℤ) → k < l.from → slice_index_or l.numbers k d ≤ℤ l.x;
}

abbrev pub decreases-farther : goal.decreases-farther
decreases-farther l = length l.numbers - l.from
