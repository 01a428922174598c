-- What holds of every report.
use Rattle.std.specs.Prelude.{◌≡◌}
use Rattle.dpl_boxes.specs.Drawings.{DrawsMasks}
use Rattle.dpl_report.specs.declared.reports.Report.{Report}
use Rattle.dpl_report.specs.Plain.{PlainReport, plain_report}
use Rattle.dpl_report.specs.ReportLines.{report_text}
use Rattle.dpl_report.specs.Valid.{IsReport}

-- no two reports have the same text
abbrev pub TextsDiffer : Type 0
TextsDiffer = (r s : PlainReport) → IsReport r → IsReport s → report_text r ≡ report_text s → r ≡ s

-- the text of a report, read again as CIF, draws its two masks and breaks no rule
abbrev pub ReportsAreDrawn : Type 0
ReportsAreDrawn = (r : PlainReport) → IsReport r →
    DrawsMasks r.head.params.layer r.on_a r.on_b (report_text r)

-- reports that say the same are the same
abbrev pub PlainIsExact : Type 0
PlainIsExact = (r s : Report) → plain_report r ≡ plain_report s → r ≡ s
