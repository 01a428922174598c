use Rattle.dpl_report.specs.Plain.{plain_report}
use Rattle.dpl_core.proofs.MaskLemmas.{masks_of_layer}
use Rattle.dpl_core.proofs.solving.true_report_is_of_the_layer.Goals as goal

pub true_reports_are_valid-requires-clause-few : goal.true_reports_are_valid-requires-clause-few
true_reports_are_valid-requires-clause-few c = c.requires.layer.is.few_edges

pub masks_are_of_the_layer-requires-clause-net : goal.masks_are_of_the_layer-requires-clause-net
masks_are_of_the_layer-requires-clause-net c = c.requires.layer.is.layer.net

pub returns-clause-masks : goal.returns-clause-masks
returns-clause-masks c = masks_of_layer c.args.options.now c.args.layer.now.fragments c.args.layer.now.net
    (plain_report c.args.report.now) c.masks_are_of_the_layer.ensures
