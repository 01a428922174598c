-- What stands in the lines of one kind at the front of a text.
use Rattle.std.specs.Prelude.{ℕ, zero, ◌+◌, ℤ, Bool, ◌||◌, ◌==◌, List, Option}
use Rattle.dpl_cell.specs.Places.{Corners}
use Rattle.dpl_form.specs.Lines.{lines_in}
use Rattle.dpl_form.specs.Readers.{many}
use Rattle.dpl_parse.specs.Items.{item_from}
use Rattle.dpl_report.specs.Reading.{item_box}

-- the items of the lines at the front, whose edges rise from a least one on, and the lines behind these
abbrev pub rising_block : {X : Type 0} → (List ℤ → Option X) → (X → ℕ) → (X → List ℕ) → ℕ → List (List ℕ)
    → List X × List (List ℕ)
rising_block made_of edge_of line_of least ls =
    many (item_from made_of edge_of line_of) (λ x. edge_of x + 1) least ls

-- the corners of the box lines at the front, and the lines behind these
abbrev pub box_block : List (List ℕ) → List Corners × List (List ℕ)
box_block ls = many (λ (s : ℕ). item_box) (λ _. zero) zero ls

-- those of a text
abbrev pub rising_left : {X : Type 0} → (List ℤ → Option X) → (X → ℕ) → (X → List ℕ) → ℕ → List ℕ → List X
rising_left made_of edge_of line_of least text = (rising_block made_of edge_of line_of least (lines_in text)).0

abbrev pub boxes_left : List ℕ → List Corners
boxes_left text = (box_block (lines_in text)).0

-- A or B
abbrev pub is_mask_letter : ℕ → Bool
is_mask_letter b = b == 65 || b == 66
