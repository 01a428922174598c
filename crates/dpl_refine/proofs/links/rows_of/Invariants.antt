use Rattle.std.proofs.Common.{◌≡◌, ◌<◌, length}
use Rattle.std.specs.Prelude.{All}
use Rattle.dpl_refine.proofs.links.rows_of.Given as goal

abbrev pub invariant-loop-link : goal.invariant-loop-link
invariant-loop-link l = (length l.keys.items ≡ length l.items.items) × All (λ k. k < l.count) l.keys.items
