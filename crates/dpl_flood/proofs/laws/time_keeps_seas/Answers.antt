use Rattle.dpl_flood.proofs.StartLemmas.{start_stands, start_due}
use Rattle.dpl_flood.proofs.MeasureLemmas.{due_time_passed, take_falls, leave_falls}
use Rattle.dpl_flood.proofs.SeaLemmas.{sea_passed, due_passed, values_after, time_small}
use Rattle.dpl_flood.proofs.laws.time_keeps_seas.Goals as goal

pub returns-clause-starts : goal.returns-clause-starts
returns-clause-starts c = start_stands

pub returns-clause-time : goal.returns-clause-time
returns-clause-time c = λ d terminals x t v way_key top_key s due late none p small out. (
  sea_passed d terminals x t v way_key top_key s due late none p small out,
  due_passed d terminals x t v way_key top_key s due late none p,
)

pub returns-clause-small : goal.returns-clause-small
returns-clause-small c = time_small

pub returns-clause-looked : goal.returns-clause-looked
returns-clause-looked c = start_due

pub returns-clause-told : goal.returns-clause-told
returns-clause-told c = due_time_passed

pub returns-clause-taken : goal.returns-clause-taken
returns-clause-taken c = take_falls

pub returns-clause-left : goal.returns-clause-left
returns-clause-left c = leave_falls

pub returns-clause-values : goal.returns-clause-values
returns-clause-values c = λ d x t way_key top_key v. values_after x t d way_key top_key v

pub returns-clause-now : goal.returns-clause-now
returns-clause-now c = λ d x t v way_key top_key late. record { ways = late.ways; tops = late.tops }
