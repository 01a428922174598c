use Rattle.std.proofs.Common.{ℕ, ◌<◌, ◌≤◌}
use Rattle.dpl_pack.specs.Ranks.{depth_at, AreMarkedFirst}
use Rattle.dpl_pack.proofs.ranks.mark_up_to.Given as goal

abbrev pub invariant-loop-i : goal.invariant-loop-i
invariant-loop-i l = record {
  marked : AreMarkedFirst l.order l.i l.inside;
  before : (j : ℕ) → j < l.i → depth_at l.order j ≤ l.level;
}
