use Rattle.std.proofs.Common.{◌≡◌, ℕ, ℤ, ◌<◌, ◌-◌, true, ◌≤ℤ◌, length}
use Rattle.dpl_cell.specs.Stretches.{is_in_stretches}
use Rattle.dpl_cover.specs.Columns.{IsAt}
use Rattle.dpl_cover.specs.Counts.{is_counted}
use Rattle.dpl_cover.specs.Parts.{HasCounted}
use Rattle.dpl_cover.proofs.parts.parts_in.Given as goal

abbrev pub invariant-loop-at : goal.invariant-loop-at
invariant-loop-at l = record {
  sound : (x : ℤ) → is_in_stretches l.parts.items x ≡ true → HasCounted l.columns l.each l.blocks x;
  full : (x : ℤ) (k : ℕ) → l.from ≤ℤ x → k < l.at → IsAt l.columns k x → is_counted l.each l.blocks k ≡ true → is_in_stretches l.parts.items x ≡ true;
}

abbrev pub decreases-loop-at : goal.decreases-loop-at
decreases-loop-at l = length l.columns - l.at
