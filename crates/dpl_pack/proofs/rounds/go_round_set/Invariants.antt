use Rattle.std.proofs.Common.{ℕ, ◌<◌, ◌≤◌, List}
use Rattle.dpl_sign.specs.declared.walks.Cycle.{Cycle}
use Rattle.dpl_pack.specs.Marks.{AreClear}
use Rattle.dpl_pack.specs.Ranks.{depth_at, AreMarkedFirst}
use Rattle.dpl_pack.specs.Rounds.{level_at, IsGoneTo}
use Rattle.dpl_pack.proofs.CourseLemmas.{IsHere}
use Rattle.dpl_pack.proofs.rounds.go_round_set.Given as goal

abbrev pub invariant-loop-i : goal.invariant-loop-i
invariant-loop-i l = record {
  here : (k : ℕ) → l.from ≤ k → k < l.to → IsHere l.course k l.faces l.depths;
  marked : AreMarkedFirst l.order.items l.marked l.inside;
  before : (j k : ℕ) → j < l.marked → l.i ≤ k → k < l.to → depth_at l.order.items j
      ≤ (level_at l.course.levels.now k).most;
  seen : AreClear l.seen;
  going : (old : List Cycle) →
      IsGoneTo l.course l.from old l.fn.cycles.items → IsGoneTo l.course l.i old l.cycles.items;
}
