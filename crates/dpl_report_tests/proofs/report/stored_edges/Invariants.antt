use Rattle.std.proofs.Common.{◌≡◌, ◌++◌, length}
use Rattle.dpl_report_tests.proofs.report.stored_edges.Given as goal

abbrev pub invariant-edges : goal.invariant-edges
invariant-edges l = l.found.items ++ l.left ≡ l.fn.edges

abbrev pub decreases-edges : goal.decreases-edges
decreases-edges l = length l.left
