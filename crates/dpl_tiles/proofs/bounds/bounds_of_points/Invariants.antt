use Rattle.dpl_tiles.proofs.IndexLemmas.{Bounded}
use Rattle.dpl_tiles.proofs.bounds.bounds_of_points.Given as goal

abbrev pub invariant-loop-p : goal.invariant-loop-p
invariant-loop-p l = record { rows : Bounded (λ p. p.y) l.points l.p-index l.low l.high; columns : Bounded (λ p. p.x) l.points l.p-index l.left l.right }
