use Rattle.std.proofs.Common.{◌∙◌}
use Rattle.dpl_run.specs.due.Edit.{edits_of}
use Rattle.dpl_run.proofs.LineLemmas.{few_lines}
use Rattle.dpl_run.proofs.EditLemmas.{script_worked, no_script_worked}
use Rattle.dpl_run.proofs.commands.edit.follow.Goals as goal

pub applied-requires : goal.applied-requires
applied-requires c =
    rw c.as_slice.ensures.value (few_lines c.args.script.now c.in-Ok.lines.items c.args.session.count c.requires.begun c.requires.short c.in-Ok.ensures.lines)

pub returns-in-Ok : goal.returns-in-Ok
returns-in-Ok c =
    script_worked (edits_of c.args.session) c.args.script.now c.in-Ok.lines.items c.as_slice.result.now c.applied.result.status c.applied.result.output.items
    c.in-Ok.ensures.lines c.as_slice.ensures.value c.applied.ensures

pub returns-in-Err : goal.returns-in-Err
returns-in-Err c =
    no_script_worked (edits_of c.args.session) c.args.script.now c.script.result c.in-Err.error c.bare.result.status c.bare.result.output.items
    c.in-Err.is c.script.ensures.bad (c.bare.ensures.status ∙ c.of_script.ensures) c.bare.ensures.output
