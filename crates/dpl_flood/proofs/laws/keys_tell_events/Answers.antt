use Rattle.dpl_flood.proofs.MeetLemmas.{due_at, due_last, has_come, tops_meet, meet_parity, top_takes, room_tops, room_shore}
use Rattle.dpl_flood.proofs.ToldLemmas.{told_is, early_falls}
use Rattle.dpl_flood.proofs.PopLemmas.{pop_way}
use Rattle.dpl_flood.proofs.NextLemmas.{some_key}
use Rattle.dpl_flood.proofs.StackedLemmas.{close_tight}
use Rattle.dpl_flood.proofs.laws.keys_tell_events.Goals as goal

pub returns-clause-due : goal.returns-clause-due
returns-clause-due c = due_at

pub returns-clause-last : goal.returns-clause-last
returns-clause-last c = due_last

pub returns-clause-come : goal.returns-clause-come
returns-clause-come c = has_come

pub returns-clause-meet : goal.returns-clause-meet
returns-clause-meet c = λ d terminals s f g long t far u far' sea even a b ne e. (
  tops_meet d terminals s f g long t far u far' sea a b ne e,
  meet_parity d terminals s f g long t far u far' sea even a b ne e,
)

pub returns-clause-take : goal.returns-clause-take
returns-clause-take c = top_takes

pub returns-clause-some : goal.returns-clause-some
returns-clause-some c = some_key

pub returns-clause-computed : goal.returns-clause-computed
returns-clause-computed c = told_is

pub returns-clause-early : goal.returns-clause-early
returns-clause-early c = early_falls

pub returns-clause-up : goal.returns-clause-up
returns-clause-up c = pop_way

pub returns-clause-rooms : goal.returns-clause-rooms
returns-clause-rooms c = λ d terminals s w t far sea a. (
  (λ u far' b ne. room_tops d terminals s w t far u far' sea a b ne),
  λ b. room_shore d terminals s w t far sea a b,
)

pub returns-clause-close : goal.returns-clause-close
returns-clause-close c = λ f a i m family. close_tight f family a i m
