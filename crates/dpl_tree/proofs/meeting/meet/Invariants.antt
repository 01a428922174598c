use Rattle.std.proofs.Common.{ℕ, ◌+◌, get_or}
use Rattle.dpl_laminar.specs.Storing.{sets_of}
use Rattle.dpl_tree.specs.steps.Growth.{IsStageBy}
use Rattle.dpl_tree.specs.steps.Joins.{AreClimbing, ways}
use Rattle.dpl_tree.specs.Views.{forest_of}
use Rattle.dpl_tree.proofs.meeting.meet.Given as goal

abbrev pub invariant-climb : goal.invariant-climb
invariant-climb l = (dist : ℕ → ℕ → ℕ) → IsStageBy (sets_of l.family) (forest_of l.tree l.mates) dist
    → AreClimbing (sets_of l.family).size (sets_of l.family) dist (forest_of l.tree l.mates) (l.s, l.t) (ways l.left.items l.right.items l.a l.b)

abbrev pub decreases-climb : goal.decreases-climb
decreases-climb l = get_or l.tree.ranks.items l.a 0 + get_or l.tree.ranks.items l.b 0
