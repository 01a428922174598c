use Rattle.dpl_report.proofs.PlainLemmas.{same_report}
use Rattle.dpl_report.proofs.TextFormat.{same_text}
use Rattle.dpl_report.proofs.DrawnLemmas.{report_is_drawn}
use Rattle.dpl_report.proofs.laws.report_rules.Goals as goal

pub returns : goal.returns
returns c = record { differ = same_text; exact = same_report; drawn = report_is_drawn }
