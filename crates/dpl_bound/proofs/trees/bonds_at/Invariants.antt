use Rattle.std.proofs.Common.{◌≡◌, ◌<◌, length}
use Rattle.std.specs.Prelude.{All}
use Rattle.dpl_bound.proofs.trees.bonds_at.Given as goal

abbrev pub invariant-loop-edge : goal.invariant-loop-edge
invariant-loop-edge l = (length l.keys.items ≡ length l.items.items) × All (λ k. k < l.graph.nodes) l.keys.items
