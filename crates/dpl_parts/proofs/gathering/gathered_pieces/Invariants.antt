use Rattle.std.proofs.Common.{◌≡◌, ◌<◌, length}
use Rattle.std.specs.Prelude.{All}
use Rattle.dpl_parts.proofs.gathering.gathered_pieces.Given as goal

abbrev pub invariant-loop-node : goal.invariant-loop-node
invariant-loop-node l = (length l.found.items ≡ l.node-index) × All (λ p. p < l.count) l.found.items
