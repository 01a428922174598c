use Rattle.std.proofs.Common.{◌≡◌, ℕ, take}
use Rattle.std.specs.Prelude.{if◌then◌else◌}
use Rattle.dpl_laminar.specs.Families.{has}
use Rattle.dpl_tree.specs.steps.Forests.{free}
use Rattle.dpl_tree.specs.Views.{place_in}
use Rattle.dpl_tree.proofs.replacing.free_all.Given as goal

abbrev pub invariant-loop-i : goal.invariant-loop-i
invariant-loop-i l = (j : ℕ) → place_in l.labels j ≡ (if has (take l.i l.sets) j then free else place_in l.fn.labels j)
