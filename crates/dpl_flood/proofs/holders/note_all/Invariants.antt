use Rattle.dpl_flood.specs.Listings.{AreNoted, IsOneOf}
use Rattle.dpl_flood.specs.States.{sea_of}
use Rattle.dpl_flood.proofs.holders.note_all.Given as goal

abbrev pub invariant-loop-i : goal.invariant-loop-i
invariant-loop-i l = AreNoted (sea_of l.state).point (IsOneOf l.faces l.i) l.fn.found.items l.found.items
