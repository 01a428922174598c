use Rattle.dpl_flood.specs.Holdings.{stack_of}
use Rattle.dpl_flood.specs.Listings.{AreNoted, IsStacked}
use Rattle.dpl_flood.specs.States.{sea_of}
use Rattle.dpl_flood.proofs.holders.note_stacks.Given as goal

abbrev pub invariant-loop-i : goal.invariant-loop-i
invariant-loop-i l = AreNoted (sea_of l.state).point (IsStacked (stack_of l.state.held) l.i) l.fn.found.items l.found.items
