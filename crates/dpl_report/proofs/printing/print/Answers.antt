use Rattle.std.proofs.Common.{◌≡◌, map}
use Rattle.std.proofs.lemmas.Result.{IfOk-weaker}
use Rattle.dpl_cell.specs.Places.{corners_of}
use Rattle.dpl_boxes.specs.Drawings.{DrawsMasks}
use Rattle.dpl_report.specs.Plain.{plain_report}
use Rattle.dpl_report.specs.ReportLines.{report_text}
use Rattle.dpl_report.proofs.DrawnLemmas.{report_is_drawn}
use Rattle.dpl_report.proofs.printing.print.Goals as goal

pub returns-clause-draws : goal.returns-clause-draws
returns-clause-draws c =
    let r = c.args.report.now in
    IfOk-weaker c.write.result (λ v. v.items ≡ report_text (plain_report r))
    (λ v. DrawsMasks r.params.layer (map corners_of r.on_a) (map corners_of r.on_b) v.items)
    (λ v e. rw e (report_is_drawn (plain_report r) c.requires)) c.write.ensures
