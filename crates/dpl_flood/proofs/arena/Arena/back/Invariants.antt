use Rattle.dpl_flood.specs.Arenas.{IsBacking}
use Rattle.dpl_flood.proofs.arena.Arena.back.Given as goal

abbrev pub invariant-loop-last : goal.invariant-loop-last
invariant-loop-last l = IsBacking l.ways l.self l.fn.found.items l.found.items l.end l.here

abbrev pub decreases-loop-last : goal.decreases-loop-last
decreases-loop-last l = l.here
