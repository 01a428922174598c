use Rattle.std.proofs.Common.{◌≡◌, ◌++◌, drop, map}
use Rattle.dpl_form.specs.Lines.{text_of}
use Rattle.dpl_report.specs.ReportLines.{cycle_line}
use Rattle.dpl_report.proofs.printing.push_cycles.Given as goal

abbrev pub invariant-loop-cycle : goal.invariant-loop-cycle
invariant-loop-cycle l = l.out.items ++ text_of (map cycle_line (drop l.cycle-index l.cycles)) ≡ l.initial.out.items ++ text_of (map cycle_line l.cycles)
