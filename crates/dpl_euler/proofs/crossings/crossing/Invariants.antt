use Rattle.std.proofs.Common.{◌<◌, ℕ}
use Rattle.dpl_euler.specs.declared.types.With.{With}
use Rattle.dpl_euler.specs.Crossings.{IsWith}
use Rattle.dpl_euler.proofs.crossings.crossing.Given as goal

abbrev pub invariant-loop-edge : goal.invariant-loop-edge
invariant-loop-edge l = (e : ℕ) (w : With) → e < l.edge → ¬ IsWith l.fragments l.net e w
