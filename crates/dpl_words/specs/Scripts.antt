-- A script of edits: a line for each box that is added and for each that is removed. The form is this project's own.
use Rattle.std.specs.Prelude.{◌≡◌, ℕ, pos, ◌+◌, ◌≤◌, ◌^◌, List, ◌∷◌, ◌++◌, length, map, codes, All}
use Rattle.dpl_cell.specs.Places.{Corners, corners_of}
use Rattle.dpl_cell.specs.Ranges.{IsRectangle}
use Rattle.dpl_boxes.specs.Masks.{spaced}
use Rattle.dpl_form.specs.Lines.{lines_in}
use Rattle.dpl_words.specs.declared.edits.Line.{Line}
use Rattle.dpl_words.specs.declared.edits.Line.TheVariants as code

-- a box to add, or the number of one to remove
pub data PlainLine : Type 0 where
  add : Corners → PlainLine
  remove : ℕ → PlainLine

abbrev pub plain_line : Line → PlainLine
plain_line (code.Add rect) = add (corners_of rect)
plain_line (code.Remove number) = remove number

-- a box as `add X1 Y1 X2 Y2`, a number as `remove N`, each with its line end
abbrev pub line_text : PlainLine → List ℕ
line_text (add c) = codes "add" ++ spaced c.x1 ++ spaced c.y1 ++ spaced c.x2 ++ spaced c.y2 ++ codes "\n"
line_text (remove number) = codes "remove" ++ spaced (pos number) ++ codes "\n"

-- the corners make a rectangle within the limits, and the number is at most 10^12
abbrev pub Fits : PlainLine → Type 0
Fits (add c) = IsRectangle c
Fits (remove number) = number ≤ 10 ^ 12

-- the text consists of these lines
pub record IsScript (text : List ℕ) (lines : List PlainLine) : Type 0 where
  pub fits : All Fits lines
  pub is : lines_in text ≡ map line_text lines

-- the text is no line of the form
abbrev pub IsNoLine : List ℕ → Type 0
IsNoLine text = (l : PlainLine) → Fits l → ¬ (line_text l ≡ text)

-- the line with this number, from 1, is the first of the text that is not of the form
pub record IsFirstBad (text : List ℕ) (number : ℕ) : Type 0 where
  pub front : List PlainLine
  pub line : List ℕ
  pub behind : List (List ℕ)
  pub fits : All Fits front
  pub split : lines_in text ≡ map line_text front ++ line ∷ behind
  pub count : number ≡ length front + 1
  pub bad : IsNoLine line
