use Rattle.std.proofs.Common.{◌≡◌, ◌++◌, drop, map}
use Rattle.dpl_form.specs.Lines.{text_of}
use Rattle.dpl_report.specs.ReportLines.{clash_line}
use Rattle.dpl_report.proofs.printing.push_clashes.Given as goal

abbrev pub invariant-loop-broken : goal.invariant-loop-broken
invariant-loop-broken l = l.out.items ++ text_of (map clash_line (drop l.broken-index l.clashes)) ≡ l.initial.out.items ++ text_of (map clash_line l.clashes)
