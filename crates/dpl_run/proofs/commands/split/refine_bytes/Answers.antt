use Rattle.dpl_layer.specs.Reasons.{FirstOf}
use Rattle.dpl_layer.specs.Refusals.{layer_reasons}
use Rattle.dpl_core.specs.Reports.{IsRefinedSplit}
use Rattle.dpl_run.proofs.MadeLemmas.{made_worked}
use Rattle.dpl_run.proofs.commands.split.refine_bytes.Goals as goal

pub returns : goal.returns
returns c =
    let m = c.refine_commands-made.ensures in
    made_worked (FirstOf (layer_reasons c.args.options.now c.args.text.now)) (IsRefinedSplit c.args.options.now c.args.text.now)
    c.refine_commands-made.result _ _ m.split m.refused m.exact c.reported.ensures.done c.reported.ensures.refused
