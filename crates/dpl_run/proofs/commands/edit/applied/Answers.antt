use Rattle.dpl_run.specs.due.Edit.{AreEditsDue, edits_of}
use Rattle.dpl_run.proofs.EditLemmas.{worked_bare_at}
use Rattle.dpl_run.proofs.commands.edit.applied.Goals as goal

pub returns-in-Err : goal.returns-in-Err
returns-in-Err c =
    worked_bare_at (AreEditsDue (edits_of c.args.session) 1 c.args.lines.now) c.in-Err.status c.bare.result.status c.bare.result.output.items
    c.in-Err.ensures.stops c.bare.ensures.status c.bare.ensures.output

pub returns-in-Ok-text_of : goal.returns-in-Ok-text_of
returns-in-Ok-text_of c = c.in-Ok.ensures.reports c.in-Ok-text_of.output.items c.in-Ok-text_of.ensures
