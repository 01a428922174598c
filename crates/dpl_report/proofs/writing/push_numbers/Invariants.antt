use Rattle.std.proofs.Common.{◌≡◌, ◌++◌, drop}
use Rattle.dpl_report.specs.ReportLines.{numbered}
use Rattle.dpl_report.proofs.writing.push_numbers.Given as goal

abbrev pub invariant-loop-number : goal.invariant-loop-number
invariant-loop-number l = l.out.items ++ numbered (drop l.number-index l.numbers) l.end ≡ l.initial.out.items ++ numbered l.numbers l.end
