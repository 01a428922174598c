use Rattle.std.proofs.Common.{◌≡◌, length, map}
use Rattle.dpl_report.specs.Plain.{plain_zone}
use Rattle.dpl_good.specs.Conditions as conditions
use Rattle.dpl_check.proofs.compare.cut_lines_miss.Given as goal

abbrev pub invariant-lines : goal.invariant-lines
invariant-lines l = conditions.cut_lines_miss l.lines
    (map plain_zone l.left) ≡ conditions.cut_lines_miss l.fn.found (map plain_zone l.wanted)

abbrev pub decreases-lines : goal.decreases-lines
decreases-lines l = length l.lines
