use Rattle.std.proofs.Common.{ℕ, ◌<◌, ◌≤ℤ◌, get_or}
use Rattle.dpl_cell.specs.declared.rect.Rect.{Rect}
use Rattle.dpl_cover.specs.Covers.{side_of}
use Rattle.dpl_cover.proofs.cover.passed_at.Given as goal

abbrev pub invariant-loop-n : goal.invariant-loop-n
invariant-loop-n l = (k : ℕ) (d : Rect) → k < l.n → side_of l.is_upper (get_or l.boxes k d) ≤ℤ l.row
