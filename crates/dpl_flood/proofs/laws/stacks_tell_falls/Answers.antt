use Rattle.dpl_flood.proofs.StackedLemmas.{top_due, held_passed, held_taken, held_left, held_changed, last_leaves}
use Rattle.dpl_flood.proofs.PopLemmas.{span_told, pop_top}
use Rattle.dpl_flood.proofs.laws.stacks_tell_falls.Goals as goal

pub returns-clause-due : goal.returns-clause-due
returns-clause-due c = top_due

pub returns-clause-time : goal.returns-clause-time
returns-clause-time c = held_passed

pub returns-clause-takes : goal.returns-clause-takes
returns-clause-takes c = held_taken

pub returns-clause-leaves : goal.returns-clause-leaves
returns-clause-leaves c = λ d terminals s k h t far rest stack sea hk is at e held. (
  last_leaves d terminals s stack k h t far rest sea held hk is at e,
  held_left d terminals s k h rest stack hk is held,
)

pub returns-clause-sets : goal.returns-clause-sets
returns-clause-sets c = held_changed

pub returns-clause-told : goal.returns-clause-told
returns-clause-told c = span_told

pub returns-clause-up : goal.returns-clause-up
returns-clause-up c = pop_top
