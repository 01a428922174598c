use Rattle.std.proofs.Common.{◌≡◌, ℕ, ◌<◌, get_or, false}
use Rattle.dpl_laminar.specs.Families.{has}
use Rattle.dpl_laminar.proofs.releasing.join.Given as goal

abbrev pub invariant-loop-i : goal.invariant-loop-i
invariant-loop-i l = record {
  done : (k : ℕ) → k < l.i → get_or l.all (get_or l.children k 0) (0, 0) ≡ get_or l.joins k (0, 0);
  others : (c : ℕ) → has l.children c ≡ false → get_or l.all c (0, 0) ≡ get_or l.fn.all c (0, 0);
}
