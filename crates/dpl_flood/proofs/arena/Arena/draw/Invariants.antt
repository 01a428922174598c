use Rattle.dpl_flood.specs.Arenas.{IsDrawing}
use Rattle.dpl_flood.proofs.arena.Arena.draw.Given as goal

abbrev pub invariant-loop-last : goal.invariant-loop-last
invariant-loop-last l = IsDrawing l.ways l.fn.self l.self l.fn.join l.at

abbrev pub decreases-loop-last : goal.decreases-loop-last
decreases-loop-last l = l.at.first
