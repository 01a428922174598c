use Rattle.dpl_run.proofs.EditLemmas.{removal_stops, removed_goes_on, of_edited}
use Rattle.dpl_run.proofs.commands.edit.remove.Goals as goal

pub returns-in-Ok-clause-taken : goal.returns-in-Ok-clause-taken
returns-in-Ok-clause-taken c = removed_goes_on c.args.session.now c.args.removed c.remove.result _ c.in-Ok.is c.in-Ok.ensures.removed.0 c.remove.ensures.exact

pub returns-in-Ok-clause-edits : goal.returns-in-Ok-clause-edits
returns-in-Ok-clause-edits c = of_edited c.args.session.now c.remove.new.self _ _ c.in-Ok.ensures.removed.1

pub returns-in-Err-clause-stops : goal.returns-in-Err-clause-stops
returns-in-Err-clause-stops c = removal_stops c.args.session.now c.args.removed c.args.number c.in-Err.error _
    c.of_removal.ensures (c.remove.ensures.refused c.in-Err.error c.in-Err.is).1
