use Rattle.std.proofs.Common.{length}
use Rattle.dpl_report_tests.proofs.report.with_line.Given as goal

abbrev pub decreases-lines : goal.decreases-lines
decreases-lines l = length l.rest
