use Rattle.std.proofs.Common.{◌∙◌}
use Rattle.dpl_gen.specs.Layout.{layout}
use Rattle.dpl_report.specs.Plain.{plain_report}
use Rattle.dpl_layer.specs.Reasons.{FirstOf}
use Rattle.dpl_layer.specs.Refusals.{layer_reasons}
use Rattle.dpl_run.proofs.MadeLemmas.{free_of}
use Rattle.dpl_run.proofs.LoadLemmas.{load_told, load_refused, valid_report}
use Rattle.dpl_run.proofs.commands.load.load_made.Goals as goal

pub returns-in-Ok-make : goal.returns-in-Ok-make
returns-in-Ok-make c =
    load_told c.options_of_made-options.result (layout c.args.start c.args.rows c.args.columns) c.as_slice.result.now
    (plain_report c.in-Ok-make.report) _ _ (c.as_slice.ensures.value ∙ c.in-Ok.ensures.text)
    c.options_of_made-options.ensures c.in-Ok-make.ensures.made
    (free_of (FirstOf (layer_reasons c.options_of_made-options.result c.as_slice.result.now)) c.make.result c.in-Ok-make.report c.in-Ok-make.is
    c.make.ensures.exact) c.told.ensures.done c.told.ensures.only

pub returns : goal.returns
returns c =
    load_refused c.options_of_made-options.result (layout c.args.start c.args.rows c.args.columns) c.as_slice.result.now
    c.in-Err-make.error _ _ (c.as_slice.ensures.value ∙ c.in-Ok.ensures.text) c.options_of_made-options.ensures
    (c.make.ensures.refused c.in-Err-make.error c.in-Err-make.is) c.refused.ensures.status c.refused.ensures.output

pub told-requires : goal.told-requires
told-requires c = valid_report c.options_of_made-options.result c.as_slice.result.now (plain_report c.in-Ok-make.report) c.in-Ok-make.ensures.made
