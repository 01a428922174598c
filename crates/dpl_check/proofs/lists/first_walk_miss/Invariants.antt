use Rattle.std.proofs.Common.{◌≡◌, ◌+◌, length, false}
use Rattle.dpl_good.specs.Conditions as conditions
use Rattle.dpl_check.proofs.lists.first_walk_miss.Given as goal

abbrev pub invariant-edges : goal.invariant-edges
invariant-edges l = record {
  miss : conditions.walk_miss l.graph l.cycle l.start l.left l.at.place l.at.node
      l.at.odd ≡ conditions.walk_miss l.graph l.cycle l.start l.fn.edges 1 l.start false;
  place : l.at.place + length l.left ≡ length l.fn.edges + 1;
}

abbrev pub decreases-edges : goal.decreases-edges
decreases-edges l = length l.left
