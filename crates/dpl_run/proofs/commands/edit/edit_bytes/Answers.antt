use Rattle.dpl_layer.specs.Reasons.{FirstOf}
use Rattle.dpl_layer.specs.Drawings.{drawing_reasons}
use Rattle.dpl_run.specs.due.Edit.{IsEditDue}
use Rattle.dpl_run.specs.due.Edit.IsEditDue.{unread}
use Rattle.dpl_run.proofs.EndLemmas.{refused_worked}
use Rattle.dpl_run.proofs.EditLemmas.{begun_worked, too_much_worked}
use Rattle.dpl_run.proofs.commands.edit.edit_bytes.Goals as goal

pub returns-in-Err : goal.returns-in-Err
returns-in-Err c =
    refused_worked (IsEditDue c.args.options.now c.args.text.now c.args.script.now)
    (FirstOf (drawing_reasons c.args.options.now c.args.text.now)) c.in-Err.error _ _
    unread (c.read_drawing.ensures.refused c.in-Err.error c.in-Err.is) c.refused.ensures.status c.refused.ensures.output

pub follow-requires-clause-begun : goal.follow-requires-clause-begun
follow-requires-clause-begun c = c.in-Ok-new.ensures.begun.count

pub returns-in-Ok-new : goal.returns-in-Ok-new
returns-in-Ok-new c =
    begun_worked c.args.options.now c.same_options-options.result c.args.text.now c.args.script.now c.in-Ok.drawing
    c.new.result c.in-Ok-new.session c.in-Ok-new.session c.follow.result.status c.follow.result.output.items
    c.same_options-options.ensures c.in-Ok.ensures.drawing c.in-Ok-new.is c.new.ensures.exact c.in-Ok-new.ensures.begun c.follow.ensures

pub returns-in-Err-new : goal.returns-in-Err-new
returns-in-Err-new c =
    too_much_worked c.args.options.now c.same_options-options.result c.args.text.now c.args.script.now c.in-Ok.drawing
    c.in-Err-new.error c.refused-in-Err-new.result.status c.refused-in-Err-new.result.output.items
    c.same_options-options.ensures c.in-Ok.ensures.drawing (c.new.ensures.refused c.in-Err-new.error c.in-Err-new.is)
    c.refused-in-Err-new.ensures.status c.refused-in-Err-new.ensures.output
