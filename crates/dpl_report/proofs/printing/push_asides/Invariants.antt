use Rattle.std.proofs.Common.{◌≡◌, ◌++◌, drop, map}
use Rattle.dpl_form.specs.Lines.{text_of}
use Rattle.dpl_report.specs.ReportLines.{aside_line}
use Rattle.dpl_report.proofs.printing.push_asides.Given as goal

abbrev pub invariant-loop-edge : goal.invariant-loop-edge
invariant-loop-edge l = l.out.items ++ text_of (map aside_line (drop l.edge-index l.aside)) ≡ l.initial.out.items ++ text_of (map aside_line l.aside)
