use Rattle.std.proofs.Common.{rules, SFits, w64}
use Rattle.std.proofs.lemmas.Int.{to_z-of_z}
use Rattle.dpl_layer.specs.Reasons.{FirstOf}
use Rattle.dpl_layer.specs.Refusals.{layer_reasons}
use Rattle.dpl_run.specs.due.Check.{IsCheckDue}
use Rattle.dpl_run.specs.due.Check.IsCheckDue.{refused, rejected, accepted}
use Rattle.dpl_run.proofs.EndLemmas.{refused_worked}
use Rattle.dpl_run.proofs.commands.check.check_bytes.Goals as goal

pub returns-in-Ok : goal.returns-in-Ok
returns-in-Ok c = rw c.in-Ok.ensures (accepted c.in-Ok-Yes.cost c.in-Ok-Yes.bound (rw c.in-Ok-Yes.field-0-is at c.in-Ok-Yes.ensures.verdict))

pub returns-in-Ok-No : goal.returns-in-Ok-No
returns-in-Ok-No c =
    let f : SFits w64 c.in-Ok-No.found = search rules in
    let h : SFits w64 c.in-Ok-No.wanted = search rules in
    rw (
      c.bare-in-Ok-No.ensures.status,
      c.bare-in-Ok-No.ensures.output,
      to_z-of_z w64 c.in-Ok-No.found f,
      to_z-of_z w64 c.in-Ok-No.wanted h,
    ) (rejected c.in-Ok-No.reason c.in-Ok-No.place c.in-Ok-No.found
    c.in-Ok-No.wanted (rw c.in-Ok-No.field-0-is at c.in-Ok-No.ensures.verdict))

pub returns-in-Err : goal.returns-in-Err
returns-in-Err c =
    refused_worked (IsCheckDue c.args.options.now c.args.text.now c.args.report.now)
    (FirstOf (layer_reasons c.args.options.now c.args.text.now)) c.in-Err.error _ _
    refused (c.check_commands.ensures.refused c.in-Err.error c.in-Err.is) c.refused.ensures.status c.refused.ensures.output
