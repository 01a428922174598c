use Rattle.std.proofs.Common.{◌≡◌, ℕ, cond, get_or, take}
use Rattle.dpl_laminar.specs.Families.{has}
use Rattle.dpl_laminar.proofs.releasing.lift.Given as goal

abbrev pub invariant-loop-member : goal.invariant-loop-member
invariant-loop-member l = (m : ℕ) → get_or l.tops m 0 ≡ cond (has (take l.member-index l.members) m) l.set (get_or l.fn.tops m 0)
