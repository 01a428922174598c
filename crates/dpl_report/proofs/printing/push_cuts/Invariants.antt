use Rattle.std.proofs.Common.{◌≡◌, ◌++◌, drop, map}
use Rattle.dpl_form.specs.Lines.{text_of}
use Rattle.dpl_report.specs.Plain.{plain_zone}
use Rattle.dpl_report.specs.ReportLines.{cut_line}
use Rattle.dpl_report.proofs.printing.push_cuts.Given as goal

abbrev pub invariant-loop-zone : goal.invariant-loop-zone
invariant-loop-zone l = l.out.items ++ text_of (map cut_line (map plain_zone (drop l.zone-index l.cuts)))
    ≡ l.initial.out.items ++ text_of (map cut_line (map plain_zone l.cuts))
