-- Texts that have one command in each line, and how they are read again.
use Rattle.std.specs.Prelude.{◌≡◌, ℕ, ◌+◌, Bool, true, not, ◌||◌, ◌==◌, List, ◌∷◌, ◌++◌, length, map, flat_map, codes, All, Some, Result, Ok}
use Rattle.std.specs.List.{list_all}
use Rattle.dpl_lex.specs.Cutting.{cut, with_span, span}
use Rattle.dpl_lex.specs.declared.cutting.Place.TheVariants.{Between}
use Rattle.dpl_lex.specs.declared.types.Ending.TheVariants.{End}
use Rattle.dpl_rules.specs.declared.command.Command.{Command}
use Rattle.dpl_rules.specs.declared.command.Command.TheVariants.{Idle}
use Rattle.dpl_rules.specs.declared.what.What.{What}
use Rattle.dpl_rules.specs.Bounds.{command_of}
use Rattle.dpl_cif.specs.Reading.{forms_of, ending_of}

-- a line without its semicolon, and the command that it says
pub record Line : Type 0 where
  pub bytes : List ℕ
  pub command : Command

-- a line with its semicolon and the line end
abbrev pub line_text : Line → List ℕ
line_text l = l.bytes ++ codes ";\n"

-- the lines one after another, and the end command in a line of its own
abbrev pub lines_text : List Line → List ℕ
lines_text lines = flat_map line_text lines ++ codes "E\n"

-- Wherever the line stands it is cut as one command, and that reads as the line's command.
pub record IsRead (l : Line) : Type 0 where
  pub cut_out : (rest : List ℕ) (at : ℕ) → cut Between at (l.bytes ++ 59 ∷ rest)
      ≡ with_span (Some (span at (at + length l.bytes))) (cut Between (at + length l.bytes
      + 1) rest)
  pub read : command_of l.bytes ≡ Ok l.command

-- what a line says
abbrev pub said : Line → Result Command What
said l = Ok l.command

-- The commands of a text are what these lines say, and it ends with its end command.
pub record Says (text : List ℕ) (lines : List Line) : Type 0 where
  pub commands : forms_of text ≡ map said lines
  pub ending : ending_of text ≡ End

-- such a text says what its lines say
abbrev pub LinesAreRead : Type 0
LinesAreRead = (lines : List Line) → All IsRead lines → Says (lines_text lines) lines

-- neither parenthesis
abbrev pub is_flat : ℕ → Bool
is_flat b = not (b == 40 || b == 41)

-- between its parentheses a comment says nothing
abbrev pub comment_line : List ℕ → Line
comment_line inner = record { bytes = codes "(" ++ inner ++ codes ")"; command = Idle }

abbrev pub CommentsAreRead : Type 0
CommentsAreRead = (inner : List ℕ) → list_all is_flat inner ≡ true → IsRead (comment_line inner)
