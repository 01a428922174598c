-- The content of a session, and which limits it passes. That boxes come and go one after another is this project's own.
use Rattle.std.specs.Prelude.{◌≡◌, ◌==◌, ℕ, Bool, not, List, ◌∷◌, ◌++◌, length, map, filter, sum_by, true}
use Rattle.std.specs.List.{list_any}
use Rattle.dpl_limits.specs.declared.counted.Counted.TheVariants as Counted
use Rattle.dpl_cell.specs.declared.layout.Primitive.{Primitive}
use Rattle.dpl_cell.specs.declared.layout.Primitive.TheVariants.{Box, Poly}
use Rattle.dpl_cell.specs.Outlines.{outline_of}
use Rattle.dpl_cell.specs.Layers.{is_cell}
use Rattle.dpl_options.specs.Options.{PlainOptions}
use Rattle.dpl_layer.specs.Drawings.{Cells}
use Rattle.dpl_layer.specs.declared.error.LayerError.{LayerError}
use Rattle.dpl_layer.specs.Reasons.{FirstOf, IsOver}
use Rattle.dpl_layer.specs.Refusals.{cells_reasons}
use Rattle.dpl_edit.specs.declared.placed.Placed.{Placed}

-- what was there at first, then the boxes that were added and not removed, in the order of adding
abbrev pub content : List Primitive → List Placed → List Primitive
content begun boxes = begun ++ map (λ b. Box b.rect) boxes

abbrev pub cells_in : List Primitive → Cells
cells_in prims = is_cell (map outline_of prims)

-- a polygon counts as many as it has points
abbrev pub weight_of : Primitive → ℕ
weight_of (Box r) = 1
weight_of (Poly points) = length points

abbrev pub prim_count : List Primitive → ℕ
prim_count prims = sum_by weight_of prims

-- the boxes but the one with this number
abbrev pub boxes_without : ℕ → List Placed → List Placed
boxes_without number boxes = filter (λ b. not (b.number == number)) boxes

-- one of the boxes has this number
abbrev pub has_number : ℕ → List Placed → Bool
has_number number boxes = list_any (λ b. b.number == number) boxes

abbrev pub HasBox : ℕ → List Placed → Type 0
HasBox number boxes = has_number number boxes ≡ true

-- why a content has no report: it has too many primitives, or its cells have none
abbrev pub content_reasons : PlainOptions → List Primitive → List Primitive →
    List (LayerError → Type 0)
content_reasons o prims keep = IsOver Counted.Primitives (prim_count prims)
    ∷ cells_reasons o (cells_in prims) (cells_in keep)

-- the content is refused with this answer
abbrev pub Refuses : PlainOptions → List Primitive → List Primitive → LayerError → Type 0
Refuses o prims keep e = FirstOf (content_reasons o prims keep) e
