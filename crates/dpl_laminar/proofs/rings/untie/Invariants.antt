use Rattle.std.proofs.Common.{◌≤◌, get_or}
use Rattle.dpl_laminar.specs.Storing.{walk}
use Rattle.dpl_laminar.proofs.Walks.{AreUntied}
use Rattle.dpl_laminar.proofs.rings.untie.Given as goal

abbrev pub invariant-loop : goal.invariant-loop
invariant-loop l = record {
  untied : AreUntied (walk (λ c. get_or l.fn.ring c 0) l.first l.count) l.fn.ring l.ring l.counter;
  some : 1 ≤ l.counter;
  most : l.counter ≤ l.count;
}
