use Rattle.std.proofs.Common.{◌≡◌, ◌<◌, true, length}
use Rattle.std.specs.Prelude.{All}
use Rattle.dpl_sign.specs.Walks.{IsPath}
use Rattle.dpl_sign.specs.Drawings.{is_in}
use Rattle.dpl_euler.specs.Searches.{step_at}
use Rattle.dpl_euler.proofs.searching.back_from.Given as goal

abbrev pub invariant-loop-at : goal.invariant-loop-at
invariant-loop-at l = record {
  path : IsPath l.search.graph.now (step_at l.steps l.place).node l.edges.items (step_at l.steps l.at).node;
  chosen : All (λ e. is_in l.search.set.now e ≡ true) l.edges.items;
  inside : l.at < length l.steps;
}

abbrev pub decreases-loop-at : goal.decreases-loop-at
decreases-loop-at l = l.at
