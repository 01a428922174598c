-- What one component has on one mask, where each fragment has the number of its component.
use Rattle.std.specs.Prelude.{ℕ, ◌==◌, ◌&&◌, Bool, List, length, slice_index_or}
use Rattle.dpl_cycle.specs.Sums.{sum_on}
use Rattle.dpl_cell.specs.declared.rect.Rect.{Rect}
use Rattle.dpl_sign.specs.Colourings.{agree, colour_of}
use Rattle.dpl_balance.specs.Areas.{area_at}

abbrev pub component_area : List Rect → List ℕ → ℕ → Bool → List Bool → ℕ
component_area rects number c on_b colours =
    sum_on (λ v. (slice_index_or number v 0 == c) && agree (colour_of colours v) on_b) (area_at rects) (length rects)
