use Rattle.dpl_near.proofs.ApartLemmas.{ApartBelow, ApartFrom}
use Rattle.dpl_near.proofs.apart.are_apart.Given as goal

abbrev pub invariant-seconds : goal.invariant-seconds
invariant-seconds l = ApartBelow l.rects l.j

abbrev pub invariant-firsts : goal.invariant-firsts
invariant-firsts l = ApartFrom l.rects l.i l.j
