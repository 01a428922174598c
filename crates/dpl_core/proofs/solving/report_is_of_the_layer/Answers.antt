use Rattle.dpl_core.proofs.ReportLemmas.{corner_stands}
use Rattle.dpl_core.proofs.solving.report_is_of_the_layer.Goals as goal

pub true_report_is_of_the_layer-requires-clause-keep : goal.true_report_is_of_the_layer-requires-clause-keep
true_report_is_of_the_layer-requires-clause-keep c = λ e. corner_stands _ _ c.requires.tight.corner e

pub returns-clause-report : goal.returns-clause-report
returns-clause-report c = record {
  truth = c.requires.truth;
  valid = c.true_report_is_of_the_layer.ensures.valid;
  good = c.true_report_is_of_the_layer.ensures.good;
  tight = c.requires.tight;
  least = c.requires.least;
}
