use Rattle.std.proofs.Common.{ℕ, ◌<◌}
use Rattle.dpl_sign.specs.Drawings.{is_in}
use Rattle.dpl_sign.specs.Parity.{Separates}
use Rattle.dpl_plain.proofs.neighbours.are_neighbours.Given as goal

abbrev pub invariant-loop-edge : goal.invariant-loop-edge
invariant-loop-edge l = (e : ℕ) → e < l.edge → Separates l.net (is_in l.set) e l.f l.g → ⊥
