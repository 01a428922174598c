use Rattle.std.proofs.Common.{◌≡◌, ◌≤◌, get_or, take, [], length}
use Rattle.dpl_laminar.specs.Families.{has}
use Rattle.dpl_laminar.specs.Storing.{circle_of}
use Rattle.dpl_laminar.proofs.Walks.{step}
use Rattle.dpl_laminar.proofs.Lifting.{AreLifted}
use Rattle.dpl_laminar.proofs.releasing.lift_all.Given as goal

abbrev pub invariant-loop : goal.invariant-loop
invariant-loop l = record {
  at : l.child ≡ step (λ c. get_or l.ring c 0) l.first l.counter;
  lifted : AreLifted (length l.fn.tops) (λ i m. has (get_or l.rows i []) m) (take l.counter (circle_of l.ring l.first l.count)) l.fn.tops l.tops;
  most : l.counter ≤ l.count;
}
