use Rattle.dpl_layer.specs.Reasons.{FirstOf}
use Rattle.dpl_layer.specs.Refusals.{layer_reasons}
use Rattle.dpl_run.specs.due.Cross.{IsCrossed}
use Rattle.dpl_run.specs.due.Made.{IsMade}
use Rattle.dpl_run.specs.due.Made.IsMade.{refused, done}
use Rattle.dpl_run.proofs.EndLemmas.{refused_worked}
use Rattle.dpl_run.proofs.CrossLemmas.{crossed, nodes_are}
use Rattle.dpl_run.proofs.MadeLemmas.{free_of}
use Rattle.dpl_run.proofs.commands.cross.cross_bytes.Goals as goal

pub lines_of-requires : goal.lines_of-requires
lines_of-requires c = nodes_are c.args.options.now c.args.text.now c.in-Ok.layer.fragments c.in-Ok.layer.net c.in-Ok.ensures.layer

pub returns-in-Ok-lines_of : goal.returns-in-Ok-lines_of
returns-in-Ok-lines_of c =
    done c.in-Ok-lines_of.output.items
    (crossed c.args.options.now c.args.text.now c.in-Ok-lines_of.output.items c.in-Ok.layer.fragments c.in-Ok.layer.net
    c.in-Ok.ensures.layer c.in-Ok-lines_of.ensures)
    (free_of (FirstOf (layer_reasons c.args.options.now c.args.text.now)) c.layer_of_commands.result c.in-Ok.layer c.in-Ok.is c.layer_of_commands.ensures.exact)

pub returns-in-Err : goal.returns-in-Err
returns-in-Err c =
    let R = FirstOf (layer_reasons c.args.options.now c.args.text.now) in
    refused_worked (IsMade R (IsCrossed c.args.options.now c.args.text.now)) R c.in-Err.error _ _
    refused (c.layer_of_commands.ensures.refused c.in-Err.error c.in-Err.is) c.refused.ensures.status c.refused.ensures.output
