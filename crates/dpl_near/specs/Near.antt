-- Close pairs of rectangles (conflict edges: Kahng, Park, Xu and Yao 2008).
use Rattle.std.specs.Prelude.{◌≡◌, ◌≢◌, ◌⊎◌, [], ◌∷◌, ◌++◌, ℕ, ◌<◌, List, length, slice_index_or}
use Rattle.dpl_cell.specs.Places.{Corners}
use Rattle.dpl_cell.specs.Cells.{IsIn}
use Rattle.dpl_cell.specs.Gaps.{AreClose}

-- rectangles that are looked through, and how near is looked
pub record Search : Type 0 where
  pub rects : List Corners
  pub reach : ℕ

-- another rectangle than the one at i, and closer to it than the reach
pub record IsNear (s : Search) (i j : ℕ) : Type 0 where
  pub within : j < length s.rects
  pub other : j ≢ i
  pub close : (d : Corners) →
      AreClose (IsIn (slice_index_or s.rects i d)) (IsIn (slice_index_or s.rects j d)) s.reach

-- the second list is the first, and j behind it where j is near
abbrev pub AddsNear : Search → ℕ → ℕ → List ℕ → List ℕ → Type 0
AddsNear s i j found new =
    (IsNear s i j × (new ≡ found ++ j ∷ [])) ⊎ ((¬ IsNear s i j) × (new ≡ found))
