use Rattle.std.proofs.Common.{arith, ◌∙◌, sym}
use Rattle.dpl_laminar.specs.Storing.{sets_of}
use Rattle.dpl_pack.proofs.TableLemmas.{added_some, added_none}
use Rattle.dpl_pack.proofs.tables.read_member.Goals as goal

pub returns-in_ok-put-clause-sets : goal.returns-in_ok-put-clause-sets
returns-in_ok-put-clause-sets c = c.in_ok-put.ensures.sets ∙ sym (added_some ((sets_of c.args.family.now).value c.args.set) _ _
    (omega (arith, c.if-value-gt0.true, c.value-value.ensures)))

pub returns-in_ok-put-clause-ends : goal.returns-in_ok-put-clause-ends
returns-in_ok-put-clause-ends c = c.in_ok-put.ensures.ends ∙ sym (added_some ((sets_of c.args.family.now).value c.args.set) _ _
    (omega (arith, c.if-value-gt0.true, c.value-value.ensures)))

pub returns-else-value-gt0-clause-sets : goal.returns-else-value-gt0-clause-sets
returns-else-value-gt0-clause-sets c = sym (added_none ((sets_of c.args.family.now).value c.args.set) _ _
    (omega (arith, c.if-value-gt0.false, c.value-value.ensures)))

pub returns-else-value-gt0-clause-ends : goal.returns-else-value-gt0-clause-ends
returns-else-value-gt0-clause-ends c = sym (added_none ((sets_of c.args.family.now).value c.args.set) _ _
    (omega (arith, c.if-value-gt0.false, c.value-value.ensures)))
