use Rattle.std.proofs.Common.{ℕ}
use Rattle.dpl_laminar.specs.Storing.{sets_of}
use Rattle.dpl_tree.specs.steps.Parted.{ArePartedBy}
use Rattle.dpl_tree.proofs.inside.part_all.Given as goal

abbrev pub invariant-loop-count : goal.invariant-loop-count
invariant-loop-count l = (dist : ℕ → ℕ → ℕ) → ArePartedBy (sets_of l.family) l.fn.mates l.fn.classes 0 dist
    → ArePartedBy (sets_of l.family) l.mates l.classes l._count dist
