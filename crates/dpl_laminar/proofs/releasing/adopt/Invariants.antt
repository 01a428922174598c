use Rattle.std.proofs.Common.{◌≡◌, ℕ, cond, get_or, take, None, Some}
use Rattle.dpl_laminar.specs.Families.{has}
use Rattle.dpl_laminar.proofs.releasing.adopt.Given as goal

abbrev pub invariant-loop-child : goal.invariant-loop-child
invariant-loop-child l = (j : ℕ) → get_or l.parents j None ≡ cond (has (take l.child-index l.children) j) (Some l.parent) (get_or l.fn.parents j None)
