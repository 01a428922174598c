use Rattle.std.proofs.Common.{subst, ◌∙◌}
use Rattle.dpl_report.specs.Plain.{plain_report}
use Rattle.dpl_edit.specs.Sessions.{IsReportOf, State}
use Rattle.dpl_core.proofs.MaskLemmas.{report_of_cells}
use Rattle.dpl_edit.proofs.sessions.Session.report.Goals as goal

pub report_is_of_the_layer-requires-clause-layer : goal.report_is_of_the_layer-requires-clause-layer
report_is_of_the_layer-requires-clause-layer c = record { cells = _; kept = _; is = c.self.invariant.0.solved.layer.is }

pub returns : goal.returns
returns c =
    let layer = c.self.invariant.0.solved.layer in
    subst (λ (z : State). IsReportOf z (plain_report c.in_ok-report.report)) c.self.view_is (record {
      of_cells = report_of_cells _ _ _ _ c.report_is_of_the_layer.ensures.report c.report_is_of_the_layer.ensures.masks _ _ layer;
      colours = c.in_ok-report.ensures.colours ∙ c.in_ok-solution.ensures.colours;
    })
