use Rattle.std.proofs.Common.{◌≡◌, ◌++◌, length, map}
use Rattle.dpl_report.specs.Plain.{plain_zone}
use Rattle.dpl_report_tests.proofs.report.stored_cuts.Given as goal

abbrev pub invariant-cuts : goal.invariant-cuts
invariant-cuts l = map plain_zone l.found.items ++ l.left ≡ l.fn.cuts

abbrev pub decreases-cuts : goal.decreases-cuts
decreases-cuts l = length l.left
