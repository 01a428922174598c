use Rattle.std.proofs.Common.{◌≡◌, length}
use Rattle.dpl_links.proofs.ranking.kinds_of.Given as goal

abbrev pub invariant-loop-piece : goal.invariant-loop-piece
invariant-loop-piece l = length l.kinds.items ≡ l.piece-index
