use Rattle.dpl_flood.specs.States.{AreKeyedFor, SeatsAmong, sea_of}
use Rattle.dpl_flood.proofs.thawing.look_seats_among.Given as goal

abbrev pub invariant-loop-i : goal.invariant-loop-i
invariant-loop-i l = AreKeyedFor l.dual (sea_of l.state) (SeatsAmong (sea_of l.state) l.state.seats l.tops l.i) l.fn.queue l.queue
