use Rattle.std.proofs.Common.{◌≡◌, ◌++◌, length}
use Rattle.dpl_report_tests.proofs.report.stored_cycles.Given as goal

abbrev pub invariant-cycles : goal.invariant-cycles
invariant-cycles l = l.found.items ++ l.left ≡ l.fn.cycles

abbrev pub decreases-cycles : goal.decreases-cycles
decreases-cycles l = length l.left
