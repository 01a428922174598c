use Rattle.std.proofs.Common.{◌-◌, ◌≤◌, length}
use Rattle.dpl_euler.specs.Searches.{AreSteps, AreFollowed}
use Rattle.dpl_euler.proofs.searching.follow_all.Given as goal

abbrev pub invariant-loop-place : goal.invariant-loop-place
invariant-loop-place l = record {
  steps : AreSteps l.search.graph.now l.search.set.now l.search.goal l.steps.items l.places;
  followed : AreFollowed l.search.graph.now l.search.set.now l.steps.items l.places l.place;
  inside : l.place ≤ length l.steps.items;
}

abbrev pub decreases-loop-place : goal.decreases-loop-place
decreases-loop-place l = l.search.graph.now.nodes - l.place
