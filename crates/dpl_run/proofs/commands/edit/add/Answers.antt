use Rattle.dpl_run.proofs.EditLemmas.{add_stops, added_goes_on, of_edited}
use Rattle.dpl_run.proofs.commands.edit.add.Goals as goal

pub returns-in-Ok-clause-taken : goal.returns-in-Ok-clause-taken
returns-in-Ok-clause-taken c = added_goes_on c.args.session.now c.args.rect c.add.result _ c.in-Ok.is c.add.ensures.exact

pub returns-in-Ok-clause-edits : goal.returns-in-Ok-clause-edits
returns-in-Ok-clause-edits c = of_edited c.args.session.now c.add.new.self _ _ c.in-Ok.ensures.added

pub returns-in-Err-clause-stops : goal.returns-in-Err-clause-stops
returns-in-Err-clause-stops c = λ n. add_stops c.args.session.now c.args.rect c.in-Err.error _ c.status_of.ensures
    (c.add.ensures.refused c.in-Err.error c.in-Err.is).1 n
