use Rattle.std.proofs.Common.{◌≡◌, ℕ, ◌<◌, length}
use Rattle.std.specs.Prelude.{slice_index}
use Rattle.dpl_laminar.specs.Storing.{sets_of}
use Rattle.dpl_pack.specs.Points.{total_at}
use Rattle.dpl_pack.proofs.climbs.all_totals.Given as goal

abbrev pub invariant-loop-member : goal.invariant-loop-member
invariant-loop-member l = record {
  sizes : length l.totals.items ≡ l.member;
  each : (t : ℕ) → t < l.member → slice_index l.totals.items t ≡ total_at (sets_of l.family) t;
}
