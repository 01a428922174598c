use Rattle.dpl_run.proofs.OrderLemmas.{long_layout_due, long_report_due, long_script_due, no_drawing_due, no_report_due, bad_line_due}
use Rattle.dpl_run.proofs.laws.refusals_are_in_order.Goals as goal

pub returns-clause-layout : goal.returns-clause-layout
returns-clause-layout c = long_layout_due

pub returns-clause-report : goal.returns-clause-report
returns-clause-report c = long_report_due

pub returns-clause-script : goal.returns-clause-script
returns-clause-script c = long_script_due

pub returns-clause-drawing : goal.returns-clause-drawing
returns-clause-drawing c = no_drawing_due

pub returns-clause-content : goal.returns-clause-content
returns-clause-content c = no_report_due

pub returns-clause-line : goal.returns-clause-line
returns-clause-line c = bad_line_due
