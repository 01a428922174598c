use Rattle.std.proofs.Common.{arith, ◌+◌, refl}
use Rattle.dpl_run.specs.due.Edit.{edits_of}
use Rattle.dpl_run.proofs.EditLemmas.{leads_on, leads_stop, leads_end, count_after}
use Rattle.dpl_run.proofs.commands.edit.apply_all.Goals as goal

pub lines-init : goal.lines-init
lines-init c = (λ status output due. due, (c.requires, omega arith))

pub lines-preserved : goal.lines-preserved
lines-preserved c =
    let (lead, (few, small)) = c.lines.invariant in
    let (is, size) = c.in-Some.ensures.cases in
    let count = count_after c.in-Some.line.now (edits_of c.lines.session) (edits_of c.apply.new.session) c.in-Ok.ensures.edits in (
      leads_on (edits_of c.args.session.now) (edits_of c.lines.session) (edits_of c.apply.new.session) c.args.lines.now
          c.lines.rest.now c.in-Some.others.now c.lines.number (c.lines.number + 1) c.in-Some.line.now
          lead is c.in-Ok.ensures.taken c.in-Ok.ensures.edits refl,
      (omega (arith, few, size, count), omega (arith, small, size)),
    )

pub returns-clause-reports : goal.returns-clause-reports
returns-clause-reports c =
    let (lead, _) = c.lines.invariant in
    leads_end (edits_of c.args.session.now) (edits_of c.lines.session) c.args.lines.now c.lines.rest.now c.lines.number lead c.in_default.ensures.cases

pub returns-in-Err-clause-stops : goal.returns-in-Err-clause-stops
returns-in-Err-clause-stops c =
    let (lead, _) = c.lines.invariant in
    leads_stop (edits_of c.args.session.now) (edits_of c.lines.session) c.args.lines.now c.lines.rest.now
    c.in-Some.others.now c.lines.number c.in-Some.line.now c.in-Err.status
    lead c.in-Some.ensures.cases.0 c.in-Err.ensures.stops
