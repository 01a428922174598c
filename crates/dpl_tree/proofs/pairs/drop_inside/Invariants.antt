use Rattle.std.proofs.Common.{◌≡◌, ℕ, cond, take}
use Rattle.dpl_laminar.specs.Storing.{sets_of}
use Rattle.dpl_tree.specs.Mates.{kept_outside}
use Rattle.dpl_tree.specs.Views.{mate_in}
use Rattle.dpl_tree.specs.steps.Joins.{is_end}
use Rattle.dpl_tree.proofs.pairs.drop_inside.Given as goal

abbrev pub invariant-loop-i : goal.invariant-loop-i
invariant-loop-i l = (k : ℕ) → mate_in l.mates k ≡
    cond (is_end (take l.i l.joins) k) (kept_outside (sets_of l.family) k (mate_in l.fn.mates k)) (mate_in l.fn.mates k)
