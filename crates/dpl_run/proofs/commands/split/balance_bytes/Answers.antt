use Rattle.dpl_layer.specs.Reasons.{FirstOf}
use Rattle.dpl_layer.specs.Refusals.{layer_reasons}
use Rattle.dpl_core.specs.Reports.{IsBalancedSplit}
use Rattle.dpl_run.proofs.MadeLemmas.{made_worked}
use Rattle.dpl_run.proofs.commands.split.balance_bytes.Goals as goal

pub returns : goal.returns
returns c =
    let m = c.balance_commands-made.ensures in
    made_worked (FirstOf (layer_reasons c.args.options.now c.args.text.now)) (IsBalancedSplit c.args.options.now c.args.text.now)
    c.balance_commands-made.result _ _ m.split m.refused m.exact c.reported.ensures.done c.reported.ensures.refused
