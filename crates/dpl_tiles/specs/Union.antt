-- Rectangles that share out the cells of a set.
use Rattle.std.specs.Prelude.{◌≡◌, ◌↔◌, Bool, List, ℤ, IsTrue, Any, AllPairs, map}
use Rattle.dpl_cell.specs.Places.{Corners}
use Rattle.dpl_cell.specs.Cells.{IsIn, AreApart}
use Rattle.dpl_cell.specs.Outlines.{Box}
use Rattle.dpl_cell.specs.Layers.{is_cell}

-- each cell of the set lies in exactly one of the rectangles, and no other cell lies in any
pub record SharesOut (cells : ℤ → ℤ → Bool) (rects : List Corners) : Type 0 where
  pub union : (x y : ℤ) → IsTrue (cells x y) ↔ Any (λ r. IsIn r x y) rects
  pub apart : AllPairs AreApart rects
  pub drawn : (x y : ℤ) → is_cell (map Box rects) x y ≡ cells x y
