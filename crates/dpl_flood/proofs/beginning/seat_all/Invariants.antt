use Rattle.dpl_flood.specs.Starts.{AreSeated}
use Rattle.dpl_flood.proofs.beginning.seat_all.Given as goal

abbrev pub invariant-loop-i : goal.invariant-loop-i
invariant-loop-i l = AreSeated l.faces l.i l.fn.held l.arena l.held
