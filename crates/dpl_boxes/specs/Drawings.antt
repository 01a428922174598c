-- What a text of masks draws, by the definitions of `dpl_cif` (Mead and Conway 1980, section 4.5).
use Rattle.std.specs.Prelude.{◌≡◌, ◌≢◌, ◌≤◌, ℕ, ℤ, Bool, true, List, [], ◌++◌, length, map, codes, None, All}
use Rattle.std.specs.List.{list_all, list_any}
use Rattle.dpl_lex.specs.Name.{is_name}
use Rattle.dpl_cif.specs.Reading.{first_fault, primitives_of}
use Rattle.dpl_cell.specs.Places.{Corners}
use Rattle.dpl_cell.specs.Outlines.{Box}
use Rattle.dpl_cell.specs.Layers.{is_in_box, is_cell}
use Rattle.dpl_cell.specs.Ranges.{IsRectangle}
use Rattle.dpl_boxes.specs.Lines.{lines_text, Says, is_flat}
use Rattle.dpl_boxes.specs.MaskLines.{lines_of_masks}

-- the cell lies in one of the boxes
abbrev pub is_in_boxes : List Corners → ℤ → ℤ → Bool
is_in_boxes boxes x y = list_any (λ b. is_in_box b x y) boxes

-- the layer with this name has exactly these boxes in this order, and exactly their cells
pub record HasBoxes (name : List ℕ) (boxes : List Corners) (text : List ℕ) : Type 0 where
  pub boxes_in_order : primitives_of name text ≡ map Box boxes
  pub cells : (x y : ℤ) → is_cell (primitives_of name text) x y ≡ is_in_boxes boxes x y

-- Whatever layer is chosen, the text breaks no rule. Its layers NAMEA and NAMEB have the boxes of
-- the two masks, and any other layer has nothing.
pub record DrawsMasks (layer : List ℕ) (on_a on_b : List Corners) (text : List ℕ) : Type 0 where
  pub clean : (chosen : List ℕ) → first_fault chosen text ≡ None
  pub on_first : HasBoxes (layer ++ codes "A") on_a text
  pub on_second : HasBoxes (layer ++ codes "B") on_b text
  pub elsewhere : (chosen : List ℕ) → chosen ≢ layer ++ codes "A" → chosen ≢ layer ++ codes "B" →
      primitives_of chosen text ≡ []

-- Lines of masks behind comments are read as they are written, and so drawn.
pub record MasksAreDrawn (comments : List (List ℕ)) (layer : List ℕ)
    (on_a on_b : List Corners) : Type 0 where
  pub says : Says (lines_text (lines_of_masks comments layer on_a on_b))
      (lines_of_masks comments layer on_a on_b)
  pub draws : DrawsMasks layer on_a on_b (lines_text (lines_of_masks comments layer on_a on_b))

-- a comment without parentheses
abbrev pub IsFlat : List ℕ → Type 0
IsFlat inner = list_all is_flat inner ≡ true

abbrev pub AllMasksAreDrawn : Type 0
AllMasksAreDrawn = (comments : List (List ℕ)) (layer : List ℕ) (on_a on_b : List Corners) →
    All IsFlat comments → is_name layer ≡ true → length layer ≤ 31 → All IsRectangle on_a →
    All IsRectangle on_b → MasksAreDrawn comments layer on_a on_b
