use Rattle.std.proofs.Common.{◌≡◌, ◌<◌, ◌≤◌, ℕ, length}
use Rattle.std.specs.Prelude.{slice_index}
use Rattle.dpl_laminar.specs.Storing.{sets_of}
use Rattle.dpl_pack.specs.Points.{total_at}
use Rattle.dpl_flood.proofs.totals.add_tops.Given as goal

abbrev pub invariant-loop-i : goal.invariant-loop-i
invariant-loop-i l = record {
  size : length l.sums ≡ length l.fn.sums;
  done : (t : ℕ) → t < l.i → slice_index l.sums t ≡ total_at (sets_of l.family) t;
  todo : (t : ℕ) → l.i ≤ t → slice_index l.sums t ≡ slice_index l.fn.sums t;
}
