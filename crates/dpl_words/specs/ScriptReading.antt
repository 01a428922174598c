-- What is read of a line of a script. It counts only where it is written so again.
use Rattle.std.specs.Prelude.{ℕ, ℤ, List, length, take, drop, codes, Option, None, Some, option_and_then, if◌then◌else◌}
use Rattle.std.specs.Str.{bytes_eq}
use Rattle.dpl_cell.specs.Places.{Corners}
use Rattle.dpl_lex.specs.Number.{signed_at}
use Rattle.dpl_lex.specs.declared.number.Num.{Num}
use Rattle.dpl_lex.specs.declared.number.Num.TheVariants.{Value, Big, Nothing}
use Rattle.dpl_rules.specs.Readers.{◌>>=◌}

abbrev pub value_of : Num × List ℕ → Option (ℤ × List ℕ)
value_of (Value z, rest) = Some (z, rest)
value_of (Big, rest) = None
value_of (Nothing, rest) = None

-- the next integer, and what follows it
abbrev pub next_value : List ℕ → Option (ℤ × List ℕ)
next_value bytes = value_of (signed_at bytes)

abbrev pub corners_read : List ℕ → Option Corners
corners_read bytes = do
  x1 ← next_value bytes
  y1 ← next_value x1.1
  x2 ← next_value y1.1
  y2 ← next_value x2.1
  Some (record { x1 = x1.0; y1 = y1.0; x2 = x2.0; y2 = y2.0 })

abbrev pub number_read : List ℕ → Option ℤ
number_read bytes = do
  z ← next_value bytes
  Some z.0

-- what follows a word
abbrev pub behind : List ℕ → List ℕ → Option (List ℕ)
behind word line = if bytes_eq (take (length word) line) word then Some (drop (length word) line)
    else None

-- the corners behind `add`
abbrev pub added : List ℕ → Option Corners
added line = option_and_then corners_read (behind (codes "add") line)

-- the number behind `remove`
abbrev pub removed : List ℕ → Option ℤ
removed line = option_and_then number_read (behind (codes "remove") line)
