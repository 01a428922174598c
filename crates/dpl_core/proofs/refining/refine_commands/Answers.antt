use Rattle.dpl_layer.proofs.TextLemmas.{some_layer}
use Rattle.dpl_report.specs.Plain.{plain_report}
use Rattle.dpl_core.proofs.RefineLemmas.{refined_of_text}
use Rattle.dpl_core.proofs.refining.refine_commands.Goals as goal

pub refined-requires-clause-layer : goal.refined-requires-clause-layer
refined-requires-clause-layer c = some_layer c.args.options.now c.args.text.now c.in_ok-layer.field-0.layer.fragments
    c.in_ok-layer.field-0.layer.net c.in_ok-layer.ensures.layer

pub returns-clause-split : goal.returns-clause-split
returns-clause-split c = record {
  report = plain_report c.in_ok-report.report;
  has = refined_of_text c.args.options.now c.args.text.now c.in_ok-layer.field-0.layer.fragments
      c.in_ok-layer.field-0.layer.net (plain_report c.in_ok-report.report) c.in_ok-report.ensures.report
      c.in_ok-report.ensures.masks c.in_ok-layer.ensures.layer;
  is = c.in_ok-written.ensures.text;
}
