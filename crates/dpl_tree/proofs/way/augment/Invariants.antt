use Rattle.std.proofs.Common.{ℕ, Option, get_or}
use Rattle.dpl_laminar.specs.Storing.{sets_of}
use Rattle.dpl_tree.specs.Metrics.{AreSymmetric}
use Rattle.dpl_tree.specs.steps.Climbs.{IsWay, IsClimbing}
use Rattle.dpl_tree.specs.steps.Opened.{lists_of, forest_in}
use Rattle.dpl_tree.specs.Views.{mate_in}
use Rattle.dpl_tree.proofs.way.augment.Given as goal

abbrev pub invariant-climb : goal.invariant-climb
invariant-climb l = (dist : ℕ → ℕ → ℕ) (was : ℕ → Option ℕ) → AreSymmetric (sets_of l.family).size dist
    → IsWay (sets_of l.family).size (sets_of l.family) dist (forest_in (lists_of l.tree) was) (mate_in l.fn.mates) (l.s, l.t)
    → IsClimbing (sets_of l.family).size (sets_of l.family) dist (forest_in (lists_of l.tree) was) (mate_in l.fn.mates) (l.s, l.t)
    (mate_in l.mates) (l.outer, l.other)

abbrev pub decreases-climb : goal.decreases-climb
decreases-climb l = get_or l.tree.ranks.items ((sets_of l.family).top l.outer) 0
