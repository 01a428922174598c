-- The stretches of a row are its runs.
use Rattle.std.proofs.Common.{◌≡◌, ℕ, ◌<◌, ℤ, List, length, get_or, ◌∙◌, Any, sym, Bool, IsTrue}
use Rattle.dpl_cell.specs.declared.stretch.Stretch.{Stretch}
use Rattle.dpl_cell.specs.Tiles.{IsRun}
use Rattle.dpl_tiles.specs.Stretches.{IsRow}
use Rattle.dpl_cell.proofs.BoxLemmas.{is_true, true_is}
use Rattle.dpl_cell.proofs.StretchLemmas.{Covers, stretch_at, stretch_among}

row_covers : (cells : ℤ → ℤ → Bool) (y : ℤ) (ss : List Stretch) → IsRow cells y ss → Covers (λ x. IsTrue (cells x y)) ss
row_covers cells y ss row = record {
  separate = row.separate;
  all = λ x h. row.same x ∙ true_is _ h;
  only = λ x e. is_true (sym (row.same x) ∙ e);
}

-- a stretch of the row is a run
pub run_from_row : (cells : ℤ → ℤ → Bool) (y : ℤ) (ss : List Stretch) → IsRow cells y ss
    → (k : ℕ) (d : Stretch) → k < length ss → IsRun cells (get_or ss k d).from (get_or ss k d).to y
run_from_row cells y ss row k d l = stretch_at (λ x. IsTrue (cells x y)) ss (row_covers cells y ss row) k d l

-- a run is a stretch of the row
pub row_has_run : (cells : ℤ → ℤ → Bool) (y : ℤ) (ss : List Stretch) → IsRow cells y ss → (x1 x2 : ℤ)
    → IsRun cells x1 x2 y → Any (λ s. (s.from ≡ x1) × (s.to ≡ x2)) ss
row_has_run cells y ss row x1 x2 run = stretch_among (λ x. IsTrue (cells x y)) ss (row_covers cells y ss row) x1 x2 run
