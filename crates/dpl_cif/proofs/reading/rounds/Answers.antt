use Rattle.std.proofs.Common.{◌≡◌, ◌∙◌, ◌+◌, ◌≤◌, ℕ, List, None, length, ap, subst, arith}
use Rattle.indexmap.specs.IndexMap.{keys}
use Rattle.dpl_lex.specs.Cutting.{commands_of}
use Rattle.dpl_lex.specs.declared.types.Commands.{Commands}
use Rattle.dpl_lex.specs.declared.types.Ending.{Ending}
use Rattle.dpl_lex.proofs.Within.{commands_few}
use Rattle.dpl_rules.specs.declared.what.What.TheVariants.{Missing, Loop}
use Rattle.dpl_rules.specs.Rules.{end_fault}
use Rattle.dpl_calls.specs.declared.table.CallSite.{CallSite}
use Rattle.dpl_calls.specs.Loops.{first_site, is_missing, is_looped}
use Rattle.dpl_calls.specs.Table.{bodies_of}
use Rattle.dpl_calls.proofs.Scans.{no_loop}
use Rattle.dpl_cif.specs.Reading.{forms_of, ending_of}
use Rattle.dpl_cif.proofs.Rounds.{table_kept, written, gives_limits, not_found, has_end}
use Rattle.dpl_cif.proofs.reading.rounds.Goals as goal

pub overflow_cast-command : goal.overflow_cast-command
overflow_cast-command c =
    let spans : c.as_slice.result.now ≡ (commands_of c.args.text.now).spans = c.as_slice.ensures ∙ ap (λ (cs : Commands). cs.spans) c.requires.commands in
    let count : length c.as_slice.result.now ≤ length c.args.text.now = rw spans (commands_few c.args.text.now) in
    omega (arith, count, c.requires.short)

pub overflow_add-command : goal.overflow_add-command
overflow_add-command c =
    let spans : c.as_slice.result.now ≡ (commands_of c.args.text.now).spans = c.as_slice.ensures ∙ ap (λ (cs : Commands). cs.spans) c.requires.commands in
    let count : length c.as_slice.result.now ≤ length c.args.text.now = rw spans (commands_few c.args.text.now) in
    omega (arith, count, c.requires.short)

pub limited-requires-clause-kept : goal.limited-requires-clause-kept
limited-requires-clause-kept c = table_kept c.args.layer.now c.args.text.now c.args.table.now c.requires.scanned c.requires.short

pub limited-requires-clause-loops : goal.limited-requires-clause-loops
limited-requires-clause-loops c =
    let none = not_found Loop c.looped.result (first_site
    (is_looped (length (keys c.args.table.now.definitions)) (bodies_of c.args.table.now)) Loop
    (written c.args.layer.now c.args.text.now c.args.table.now c.requires.scanned)) c.in-None.is
    (c.looped.ensures (written c.args.layer.now c.args.text.now c.args.table.now c.requires.scanned)
    c.requires.scanned.calls) in
    no_loop c.args.layer.now (forms_of c.args.text.now) (ending_of c.args.text.now) c.args.table.now c.requires.scanned
    c.in-Ok.groups.labels c.in-Ok.groups.heads c.count-count.ensures.distinct c.in-Ok.ensures none

pub returns : goal.returns
returns c =
    let ending : c.args.commands.now.ending ≡ ending_of c.args.text.now = ap (λ (cs : Commands). cs.ending) c.requires.commands in
    let end_none : end_fault (length (forms_of c.args.text.now) + 1) (ending_of c.args.text.now) ≡ None =
    subst (λ (e : Ending). end_fault (length (forms_of c.args.text.now) + 1) e ≡ None) ending
    (has_end c.has_no_end.result c.args.commands.now.ending (length (forms_of c.args.text.now) + 1)
    c.if-has_no_end.false c.has_no_end.ensures) in
    let sites : List CallSite = written c.args.layer.now c.args.text.now c.args.table.now c.requires.scanned in
    let missing_none = not_found Missing c.missing.result
    (first_site (is_missing (keys c.args.table.now.definitions)) Missing sites) c.in_default.is
    (c.missing.ensures sites c.requires.scanned.calls) in
    let loop_none = not_found Loop c.looped.result (first_site
    (is_looped (length (keys c.args.table.now.definitions)) (bodies_of c.args.table.now)) Loop sites) c.in-None.is
    (c.looped.ensures sites c.requires.scanned.calls) in
    gives_limits c.args.layer.now c.args.text.now c.args.table.now c.requires.scanned c.limited.result _
    (ap (λ (n : ℕ). n + 1) c.count-count.ensures.value) end_none missing_none loop_none c.limited.ensures
