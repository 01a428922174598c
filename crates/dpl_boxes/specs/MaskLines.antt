-- The text of two masks line by line, each line with what it says (Mead and Conway 1980, section 4.5).
use Rattle.std.specs.Prelude.{◌≡◌, ℕ, pos, ◌+ℤ◌, ◌-ℤ◌, ◌*ℤ◌, unsigned_abs, true, List, [], ◌∷◌, ◌++◌, map, codes}
use Rattle.dpl_cell.specs.Places.{Corners}
use Rattle.dpl_cell.specs.Ranges.{IsRectangle}
use Rattle.dpl_lex.specs.Name.{is_name}
use Rattle.dpl_rules.specs.declared.command.Scale.{Scale}
use Rattle.dpl_rules.specs.declared.command.BoxForm.{BoxForm}
use Rattle.dpl_rules.specs.declared.command.Command.TheVariants.{Box, Layer, Start, Finish, Call}
use Rattle.dpl_rules.specs.Readers.{spot}
use Rattle.dpl_boxes.specs.Masks.{box_bytes}
use Rattle.dpl_boxes.specs.Lines.{Line, IsRead, comment_line}

-- quarters of a hundredth of a micron
abbrev pub quarters : Scale
quarters = record { times = 1; over = 4 }

-- the definition with the number 1 begins
abbrev pub start_line : Line
start_line = record { bytes = codes "DS 1 1 4"; command = Start 1 quarters }

abbrev pub layer_line : List ℕ → Line
layer_line name = record { bytes = codes "L " ++ name; command = Layer name }

-- a rectangle as a box with its length along x
abbrev pub box_form : Corners → BoxForm
box_form b = record {
  length = unsigned_abs ((b.x2 -ℤ b.x1) *ℤ pos 2);
  width = unsigned_abs ((b.y2 -ℤ b.y1) *ℤ pos 2);
  centre = spot (b.x1 +ℤ b.x2) (b.y1 +ℤ b.y2);
  direction = spot (pos 1) (pos 0);
}

abbrev pub box_line : Corners → Line
box_line b = record {
  bytes = box_bytes b;
  command = Box (box_form b);
}

abbrev pub finish_line : Line
finish_line = record { bytes = codes "DF"; command = Finish }

-- the definition is called once
abbrev pub call_line : Line
call_line = record { bytes = codes "C 1"; command = Call 1 [] }

-- one mask: its layer, and its rectangles in order
abbrev pub lines_of_mask : List ℕ → List Corners → List Line
lines_of_mask name boxes = layer_line name ∷ map box_line boxes

-- the definition ends, and is called once
abbrev pub last_lines : List Line
last_lines = finish_line ∷ call_line ∷ []

-- both masks in one definition, and its call
abbrev pub lines_of_definition : List ℕ → List Corners → List Corners → List Line
lines_of_definition layer on_a on_b = start_line
    ∷ (lines_of_mask (layer ++ codes "A") on_a
    ++ (lines_of_mask (layer ++ codes "B") on_b ++ last_lines))

-- the same behind comments
abbrev pub lines_of_masks : List (List ℕ) → List ℕ → List Corners → List Corners → List Line
lines_of_masks comments layer on_a on_b =
    map comment_line comments ++ lines_of_definition layer on_a on_b

abbrev pub LayersAreRead : Type 0
LayersAreRead = (name : List ℕ) → is_name name ≡ true → IsRead (layer_line name)

abbrev pub BoxesAreRead : Type 0
BoxesAreRead = (b : Corners) → IsRectangle b → IsRead (box_line b)
