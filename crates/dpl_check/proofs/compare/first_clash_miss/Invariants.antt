use Rattle.std.proofs.Common.{◌≡◌, length}
use Rattle.dpl_good.specs.Conditions as conditions
use Rattle.dpl_check.proofs.compare.first_clash_miss.Given as goal

abbrev pub invariant-lines : goal.invariant-lines
invariant-lines l = conditions.clash_lines_miss l.lines l.left ≡ conditions.clash_lines_miss l.fn.found l.wanted

abbrev pub decreases-lines : goal.decreases-lines
decreases-lines l = length l.lines
