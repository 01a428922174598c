use Rattle.std.proofs.Common.{◌≡◌, ◌⊎◌, ℕ, ◌<◌, ◌≤ℤ◌, Any, length, get_or}
use Rattle.dpl_cell.specs.declared.rect.Rect.{Rect}
use Rattle.dpl_tiles.proofs.sweeping.window_of.Given as goal

abbrev pub invariant-loop-r : goal.invariant-loop-r
invariant-loop-r l = record {
  left : l.columns.left ≤ℤ l.change.left;
  right : l.change.right ≤ℤ l.columns.right;
  lefts : (k : ℕ) (d : Rect) → k < l.r-index → k < length l.near → l.columns.left ≤ℤ (get_or l.near k d).x1;
  rights : (k : ℕ) (d : Rect) → k < l.r-index → k < length l.near → (get_or l.near k d).x2 ≤ℤ l.columns.right;
  first : (l.columns.left ≡ l.change.left) ⊎ Any (λ r. r.x1 ≡ l.columns.left) l.near;
  last : (l.columns.right ≡ l.change.right) ⊎ Any (λ r. r.x2 ≡ l.columns.right) l.near;
}
