-- An event of a stage takes it to a next state.
use Rattle.std.proofs.Common.{arith, ℕ, ◌+◌, ◌*◌, ◌≤◌}
use Rattle.dpl_laminar.specs.Families.{Sets}
use Rattle.dpl_tree.specs.steps.Forests.{Forest}
use Rattle.dpl_tree.specs.steps.Growth.{IsNextBy}
use Rattle.dpl_tree.proofs.Events.{IsEvent}

pub event_next : {f g : Sets} {x y : Forest} {dist : ℕ → ℕ → ℕ} {after : ℕ → ℕ} → ((bound : ℕ) → after bound ≤ bound + 4 * f.size)
    → IsEvent f.size dist after f x g y → IsNextBy f x g y dist
event_next most w = record {
  advances = w.advances;
  ranks = λ bound r i. omega (arith, w.ranks bound r i, most bound);
  totals = w.sums;
  widens = w.widens;
  trees = w.trees;
}
