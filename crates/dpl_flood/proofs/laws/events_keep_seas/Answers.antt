use Rattle.dpl_pack.specs.Points.{water, on}
use Rattle.dpl_flood.proofs.EventLemmas.{event_kept, grow_stands, grow_due, cease_stands, cease_due, thaw_stands, thaw_due, fold_stands, fold_due, give_stands, give_due, shift_stands, shift_due, take_shifts, leave_shifts}
use Rattle.dpl_flood.proofs.SeaLemmas.{now_kept}
use Rattle.dpl_flood.proofs.laws.events_keep_seas.Goals as goal

pub returns-clause-due : goal.returns-clause-due
returns-clause-due c = event_kept

pub returns-clause-grows : goal.returns-clause-grows
returns-clause-grows c = λ d terminals x inner outer gain loss rests looked seen s g at sees. (
  grow_stands d terminals x inner outer gain loss rests s g,
  grow_due d terminals x inner outer gain loss rests looked seen s g at sees,
)

pub returns-clause-ends : goal.returns-clause-ends
returns-clause-ends c = λ d terminals x gain loss rests looked seen s g. (
  cease_stands d terminals x gain loss rests s g,
  cease_due d terminals x gain loss rests looked seen s g,
)

pub returns-clause-thaws : goal.returns-clause-thaws
returns-clause-thaws c = λ d terminals x looked seen s at. (
  thaw_stands d terminals x s,
  thaw_due d terminals x looked seen s at,
)

pub returns-clause-folds : goal.returns-clause-folds
returns-clause-folds c = λ d terminals x children joins set new gain loss rests looked seen s f at. (
  fold_stands d terminals x children joins set new gain loss rests s f,
  fold_due d terminals x children joins set new gain loss rests looked seen s f at,
)

pub returns-clause-opened : goal.returns-clause-opened
returns-clause-opened c = λ d terminals x set new gain loss rests looked seen s g at sees. (
  give_stands d terminals x set new gain loss rests s g,
  give_due d terminals x set new gain loss rests looked seen s g at sees,
)

pub returns-clause-takes : goal.returns-clause-takes
returns-clause-takes c = λ d terminals x h t far looked seen s w at. (
  shift_stands d terminals x h (on t far) s (take_shifts d terminals x h t far s w),
  shift_due d terminals x h (on t far) looked seen s (take_shifts d terminals x h t far s w) at,
)

pub returns-clause-leaves : goal.returns-clause-leaves
returns-clause-leaves c = λ d terminals x h t far looked seen s w at. (
  shift_stands d terminals x h water s (leave_shifts d terminals x h t far s w),
  shift_due d terminals x h water looked seen s (leave_shifts d terminals x h t far s w) at,
)

pub returns-clause-now : goal.returns-clause-now
returns-clause-now c = now_kept
