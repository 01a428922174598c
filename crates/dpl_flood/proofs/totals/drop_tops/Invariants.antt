use Rattle.std.proofs.Common.{◌≡◌, ◌<◌, ◌≤◌, ℕ, length}
use Rattle.std.specs.Prelude.{slice_index}
use Rattle.dpl_laminar.specs.Storing.{sets_of}
use Rattle.dpl_pack.specs.Nests.{inner_of}
use Rattle.dpl_flood.proofs.totals.drop_tops.Given as goal

abbrev pub invariant-loop-i : goal.invariant-loop-i
invariant-loop-i l = record {
  size : length l.sums ≡ length l.fn.sums;
  done : (t : ℕ) → t < l.i → slice_index l.sums t ≡ inner_of (sets_of l.family) ((sets_of l.family).top t) t;
  todo : (t : ℕ) → l.i ≤ t → slice_index l.sums t ≡ slice_index l.fn.sums t;
}
