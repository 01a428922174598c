use Rattle.std.proofs.Common.{◌≡◌, ◌++◌, length}
use Rattle.dpl_report_tests.proofs.report.stored_clashes.Given as goal

abbrev pub invariant-clashes : goal.invariant-clashes
invariant-clashes l = l.found.items ++ l.left ≡ l.fn.clashes

abbrev pub decreases-clashes : goal.decreases-clashes
decreases-clashes l = length l.left
