use Rattle.std.proofs.Common.{◌≡◌, ℕ, get_or, take, []}
use Rattle.std.specs.List.{list_any}
use Rattle.dpl_laminar.specs.Families.{has}
use Rattle.dpl_laminar.proofs.members.joined.Given as goal

abbrev pub invariant-loop-set : goal.invariant-loop-set
invariant-loop-set l = (m : ℕ) → has l.held.items m ≡ list_any (λ set. has (get_or l.rows set []) m) (take l.set-index l.sets)
