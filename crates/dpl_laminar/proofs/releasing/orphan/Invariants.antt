use Rattle.std.proofs.Common.{◌≡◌, ℕ, ◌≤◌, cond, get_or, take, None}
use Rattle.dpl_laminar.specs.Families.{has}
use Rattle.dpl_laminar.specs.Storing.{circle_of}
use Rattle.dpl_laminar.proofs.Walks.{step}
use Rattle.dpl_laminar.proofs.releasing.orphan.Given as goal

abbrev pub invariant-loop : goal.invariant-loop
invariant-loop l = record {
  at : l.child ≡ step (λ c. get_or l.ring c 0) l.first l.counter;
  parents : (i : ℕ) → get_or l.parents i None ≡ cond (has (take l.counter (circle_of l.ring l.first l.count)) i) None (get_or l.fn.parents i None);
  most : l.counter ≤ l.count;
}
