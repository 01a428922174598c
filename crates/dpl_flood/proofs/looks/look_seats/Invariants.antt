use Rattle.dpl_flood.specs.States.{AreKeyedFor, SeatsOf, sea_of}
use Rattle.dpl_flood.proofs.looks.look_seats.Given as goal

abbrev pub invariant-loop-i : goal.invariant-loop-i
invariant-loop-i l = AreKeyedFor l.dual (sea_of l.state) (SeatsOf l.state.seats l.members l.i) l.fn.queue l.queue
