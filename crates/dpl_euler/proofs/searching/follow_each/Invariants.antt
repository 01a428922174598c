use Rattle.std.proofs.Common.{◌≡◌, ◌<◌, ℕ, true}
use Rattle.std.specs.Prelude.{slice_index}
use Rattle.dpl_sign.specs.Walks.{edge_at, across}
use Rattle.dpl_euler.specs.Searches.{AreSteps, GoesOn, step_at, is_reached}
use Rattle.dpl_euler.proofs.searching.follow_each.Given as goal

abbrev pub invariant-loop-i : goal.invariant-loop-i
invariant-loop-i l = record {
  steps : AreSteps l.search.graph.now l.search.set.now l.search.goal l.steps.items l.places;
  goes_on : GoesOn l.fn.steps.items l.steps.items l.fn.places l.places;
  reached : (i : ℕ) → i < l.i → is_reached l.places (across (edge_at l.search.graph.now (slice_index l.row i)) (step_at l.fn.steps.items l.place).node) ≡ true;
}
