use Rattle.std.proofs.Common.{arith, refl}
use Rattle.dpl_limits.specs.declared.TheConstants.{MOST_LAYOUT_BYTES}
use Rattle.dpl_run.specs.Inputs.{opens}
use Rattle.dpl_run.specs.Answer.{DueOf}
use Rattle.dpl_run.proofs.EndLemmas.{worked_bare, worked_limit, worked_no_fault, worked_status}
use Rattle.dpl_run.proofs.DueLemmas.{all_end}
use Rattle.dpl_run.proofs.ReadingLemmas.{carried_due, layout_due, layout_fault, layout_limit, layout_no_limit}
use Rattle.dpl_run.proofs.ReadingLemmas.{layout_no_script, layout_bare, layout_status, untouched, second_due}
use Rattle.dpl_run.proofs.ReadingLemmas.{second_fault, second_limit, second_script, second_no_limit, second_bare}
use Rattle.dpl_run.proofs.ReadingLemmas.{second_status}
use Rattle.dpl_run.proofs.SteadyLemmas.{steady_ok, steady_stop}
use Rattle.dpl_run.proofs.AbsentLemmas.{layout_unread, not_opened, second_unread}
use Rattle.dpl_run.proofs.answering.due_for.Goals as goal

-- ---- the layout was not read whole

pub returns-in-Err-clause-due : goal.returns-in-Err-clause-due
returns-in-Err-clause-due g c = λ text other told.
    layout_due c.args.command.now (g.S.Source.seen c.args.layout.now)
    (g.S.Source.seen c.layout_for.new.layout) text other c.in-Err.status _ _
    (rw c.reads_layout.ensures at c.in-Err.ensures.stops) c.bare.ensures.status c.bare.ensures.output told.0

pub returns-in-Err-clause-read : goal.returns-in-Err-clause-read
returns-in-Err-clause-read g c =
    layout_fault c.args.command.now (g.S.Source.seen c.args.layout.now)
    (g.S.Source.seen c.layout_for.new.layout) _ _ c.in-Err.status _
    (rw c.reads_layout.ensures at c.in-Err.ensures.stops) c.bare.ensures.status

pub returns-in-Err-clause-limit : goal.returns-in-Err-clause-limit
returns-in-Err-clause-limit g c = λ count.
    layout_limit c.args.command.now (g.S.Source.seen c.args.layout.now)
    (g.S.Source.seen c.layout_for.new.layout) c.in-Err.status _ count
    (rw c.reads_layout.ensures at c.in-Err.ensures.stops) c.bare.ensures.status

pub returns-in-Err-clause-report_limit : goal.returns-in-Err-clause-report_limit
returns-in-Err-clause-report_limit g c = λ count.
    layout_no_limit c.args.command.now (g.S.Source.seen c.args.layout.now)
    (g.S.Source.seen c.layout_for.new.layout) c.in-Err.status _ count _
    (rw c.reads_layout.ensures at c.in-Err.ensures.stops) c.bare.ensures.status

pub returns-in-Err-clause-script_limit : goal.returns-in-Err-clause-script_limit
returns-in-Err-clause-script_limit g c = λ count.
    layout_no_script c.args.command.now (g.S.Source.seen c.args.layout.now)
    (g.S.Source.seen c.layout_for.new.layout) c.in-Err.status _ count _
    (rw c.reads_layout.ensures at c.in-Err.ensures.stops) c.bare.ensures.status

pub returns-in-Err-clause-absent : goal.returns-in-Err-clause-absent
returns-in-Err-clause-absent g c = λ a.
    layout_unread (g.S.Source.seen c.args.layout.now) (g.S.Source.seen c.layout_for.new.layout) MOST_LAYOUT_BYTES
    c.in-Err.status _ c.in-Err.ensures.stops.1 c.bare.ensures.status

pub returns-in-Err-clause-touched : goal.returns-in-Err-clause-touched
returns-in-Err-clause-touched g c = (
  rw c.reads_layout.ensures at c.layout_for.ensures.touched,
  untouched (opens c.args.command.now) (g.F.Source.seen c.args.second.now),
)

pub returns-in-Err-clause-steady : goal.returns-in-Err-clause-steady
returns-in-Err-clause-steady g c = λ n m. (steady_stop _ _ c.in-Err.status _ c.in-Err.is c.bare.ensures.status c.layout_for.ensures.steady n m, refl)

pub returns-in-Err-clause-bare : goal.returns-in-Err-clause-bare
returns-in-Err-clause-bare g c =
    layout_bare c.args.command.now (g.S.Source.seen c.args.layout.now)
    (g.S.Source.seen c.layout_for.new.layout) c.in-Err.status _ _
    (rw c.reads_layout.ensures at c.in-Err.ensures.stops) c.bare.ensures.status c.bare.ensures.output

pub returns-in-Err-clause-of_words : goal.returns-in-Err-clause-of_words
returns-in-Err-clause-of_words g c =
    layout_status c.args.command.now (g.S.Source.seen c.args.layout.now)
    (g.S.Source.seen c.layout_for.new.layout) c.in-Err.status _
    (rw c.reads_layout.ensures at c.in-Err.ensures.stops) c.bare.ensures.status

-- ---- the second text was not read whole

pub returns-clause-due : goal.returns-clause-due
returns-clause-due g c = λ text other told.
    second_due c.args.command.now (g.S.Source.seen c.args.layout.now)
    (g.S.Source.seen c.layout_for.new.layout) (g.F.Source.seen c.args.second.now)
    (g.F.Source.seen c.second_for.new.second) (g.F.Shelf.texts c.args.second.now) c.in-Ok.read.text.items text other
    c.in-Err-second_for.status _ _ (rw c.reads_layout.ensures at c.in-Ok.ensures.whole)
    c.in-Err-second_for.ensures.stops c.bare-in-Err-second_for.ensures.status
    c.bare-in-Err-second_for.ensures.output told

pub returns-clause-read : goal.returns-clause-read
returns-clause-read g c =
    second_fault c.args.command.now (g.S.Source.seen c.args.layout.now)
    (g.S.Source.seen c.layout_for.new.layout) (g.F.Source.seen c.args.second.now)
    (g.F.Source.seen c.second_for.new.second) (g.F.Shelf.texts c.args.second.now) c.in-Err-second_for.status _
    c.in-Err-second_for.ensures.stops c.bare-in-Err-second_for.ensures.status

pub returns-clause-limit : goal.returns-clause-limit
returns-clause-limit g c = λ count.
    second_no_limit c.args.command.now (g.F.Source.seen c.args.second.now)
    (g.F.Source.seen c.second_for.new.second) (g.F.Shelf.texts c.args.second.now) c.in-Err-second_for.status _ count
    _ c.in-Err-second_for.ensures.stops c.bare-in-Err-second_for.ensures.status

pub returns-clause-report_limit : goal.returns-clause-report_limit
returns-clause-report_limit g c = λ count.
    second_limit c.args.command.now (g.F.Source.seen c.args.second.now)
    (g.F.Source.seen c.second_for.new.second) (g.F.Shelf.texts c.args.second.now) c.in-Err-second_for.status _ count
    c.in-Err-second_for.ensures.stops c.bare-in-Err-second_for.ensures.status

pub returns-clause-script_limit : goal.returns-clause-script_limit
returns-clause-script_limit g c = λ count.
    second_script c.args.command.now (g.F.Source.seen c.args.second.now)
    (g.F.Source.seen c.second_for.new.second) (g.F.Shelf.texts c.args.second.now) c.in-Err-second_for.status _ count
    c.in-Err-second_for.ensures.stops c.bare-in-Err-second_for.ensures.status

pub returns-clause-absent : goal.returns-clause-absent
returns-clause-absent g c = λ a.
    second_unread c.second_for.result c.in-Err-second_for.status _ (c.second_for.ensures.absent a)
    c.in-Err-second_for.is c.bare-in-Err-second_for.ensures.status

pub returns-clause-touched : goal.returns-clause-touched
returns-clause-touched g c = (rw c.reads_layout.ensures at c.layout_for.ensures.touched, c.second_for.ensures.touched)

pub returns-clause-steady : goal.returns-clause-steady
returns-clause-steady g c = λ n m. (
  steady_ok _ c.layout_for.result c.in-Ok.read c.in-Ok.is c.layout_for.ensures.steady,
  steady_stop _ _ c.in-Err-second_for.status _ c.in-Err-second_for.is c.bare-in-Err-second_for.ensures.status c.second_for.ensures.steady n m,
)

pub returns-clause-bare : goal.returns-clause-bare
returns-clause-bare g c =
    second_bare c.args.command.now (g.F.Source.seen c.args.second.now)
    (g.F.Source.seen c.second_for.new.second) (g.F.Shelf.texts c.args.second.now) c.in-Err-second_for.status _ _
    c.in-Err-second_for.ensures.stops c.bare-in-Err-second_for.ensures.status
    c.bare-in-Err-second_for.ensures.output

pub returns-clause-of_words : goal.returns-clause-of_words
returns-clause-of_words g c =
    second_status c.args.command.now (g.F.Source.seen c.args.second.now)
    (g.F.Source.seen c.second_for.new.second) (g.F.Shelf.texts c.args.second.now) c.in-Err-second_for.status _
    c.in-Err-second_for.ensures.stops c.bare-in-Err-second_for.ensures.status

-- ---- the texts were read whole

pub returns-in-Ok-second_for-clause-due : goal.returns-in-Ok-second_for-clause-due
returns-in-Ok-second_for-clause-due g c = λ text other told.
    carried_due c.args.command.now (g.S.Source.seen c.args.layout.now)
    (g.S.Source.seen c.layout_for.new.layout) (g.F.Shelf.texts c.args.second.now) c.in-Ok.read.text.items
    c.in-Ok-second_for.text.items text other _ _
    (rw c.reads_layout.ensures at c.in-Ok.ensures.whole) c.in-Ok-second_for.ensures.read
    c.in-Ok-second_for.ensures.small (rw (c.as_slice.ensures.value, c.as_slice-in-Ok-second_for.ensures.value) at
    c.carry_out.ensures) told

pub returns-in-Ok-second_for-clause-read : goal.returns-in-Ok-second_for-clause-read
returns-in-Ok-second_for-clause-read g c = λ e.
    absurd (worked_no_fault c.args.command.now
    (DueOf c.args.command.now c.as_slice.result.now c.as_slice-in-Ok-second_for.result.now)
    (all_end c.args.command.now c.as_slice.result.now c.as_slice-in-Ok-second_for.result.now) _ _
    c.carry_out.ensures e)

pub returns-in-Ok-second_for-clause-limit : goal.returns-in-Ok-second_for-clause-limit
returns-in-Ok-second_for-clause-limit g c = λ count e.
    let k = worked_limit c.args.command.now
    (DueOf c.args.command.now c.as_slice.result.now c.as_slice-in-Ok-second_for.result.now)
    (all_end c.args.command.now c.as_slice.result.now c.as_slice-in-Ok-second_for.result.now) _ _ 1
    count c.carry_out.ensures e in
    absurd (omega (arith, k.0))

pub returns-in-Ok-second_for-clause-report_limit : goal.returns-in-Ok-second_for-clause-report_limit
returns-in-Ok-second_for-clause-report_limit g c = λ count e.
    let k = worked_limit c.args.command.now
    (DueOf c.args.command.now c.as_slice.result.now c.as_slice-in-Ok-second_for.result.now)
    (all_end c.args.command.now c.as_slice.result.now c.as_slice-in-Ok-second_for.result.now) _ _ 9
    count c.carry_out.ensures e in
    absurd (omega (arith, k.1))

pub returns-in-Ok-second_for-clause-script_limit : goal.returns-in-Ok-second_for-clause-script_limit
returns-in-Ok-second_for-clause-script_limit g c = λ count e.
    let k = worked_limit c.args.command.now
    (DueOf c.args.command.now c.as_slice.result.now c.as_slice-in-Ok-second_for.result.now)
    (all_end c.args.command.now c.as_slice.result.now c.as_slice-in-Ok-second_for.result.now) _ _ 10
    count c.carry_out.ensures e in
    absurd (omega (arith, k.1))

pub returns-in-Ok-second_for-clause-absent : goal.returns-in-Ok-second_for-clause-absent
returns-in-Ok-second_for-clause-absent g c = λ a.
    absurd (not_opened c.second_for.result c.in-Ok-second_for.text (c.second_for.ensures.absent a) c.in-Ok-second_for.is)

pub returns-in-Ok-second_for-clause-bare : goal.returns-in-Ok-second_for-clause-bare
returns-in-Ok-second_for-clause-bare g c =
    worked_bare c.args.command.now (DueOf c.args.command.now c.as_slice.result.now
    c.as_slice-in-Ok-second_for.result.now) (all_end c.args.command.now c.as_slice.result.now
    c.as_slice-in-Ok-second_for.result.now) _ _ c.carry_out.ensures

pub returns-in-Ok-second_for-clause-of_words : goal.returns-in-Ok-second_for-clause-of_words
returns-in-Ok-second_for-clause-of_words g c =
    worked_status c.args.command.now (DueOf c.args.command.now c.as_slice.result.now
    c.as_slice-in-Ok-second_for.result.now) (all_end c.args.command.now c.as_slice.result.now
    c.as_slice-in-Ok-second_for.result.now) _ _ c.carry_out.ensures
