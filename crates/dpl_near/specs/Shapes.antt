-- Shapes: the classes of the cells of rectangles under sharing an edge.
use Rattle.std.specs.Prelude.{◌≡◌, ◌↔◌, ℕ, ℤ, ◌<◌, List, length, slice_index_or, map}
use Rattle.dpl_cell.specs.Places.{Corners}
use Rattle.dpl_cell.specs.Cells.{IsIn}
use Rattle.dpl_cell.specs.Outlines.{Box}
use Rattle.dpl_cell.specs.Layers.{is_cell}
use Rattle.dpl_cell.specs.Shapes.{AreOneShape}
use Rattle.dpl_classes.specs.Classes.{IsNumbered}

-- two of the rectangles have one label where their cells are of one shape in the layer of them all
pub record AreShapes (rects : List Corners) (label : List ℕ) (count : ℕ) : Type 0 where
  pub long : length label ≡ length rects
  pub same : (i j : ℕ) (d : Corners) (x y x' y' : ℤ) → i < length rects → j < length rects →
      IsIn (slice_index_or rects i d) x y → IsIn (slice_index_or rects j d) x' y' →
      (slice_index_or label i 0 ≡ slice_index_or label j 0) ↔
      AreOneShape (is_cell (map Box rects)) x y x' y'
  pub numbered : IsNumbered label count
