-- The cycle lines of a report where they stand, and the bytes of such a line.
use Rattle.std.specs.Prelude.{◌≡◌, ◌≤◌, ℕ, zero, pos, true, unsigned_abs, List, [], ◌∷◌, ◌++◌, map, codes}
use Rattle.std.specs.List.{AllByRecursion}
use Rattle.std.specs.Fmt.{decimal}
use Rattle.dpl_boxes.specs.Masks.{spaced}
use Rattle.dpl_boxes.specs.Written.{has_no_digit}
use Rattle.dpl_form.specs.Lines.{lines_in}
use Rattle.dpl_form.specs.Readers.{many}
use Rattle.dpl_sign.specs.declared.walks.Cycle.{Cycle}
use Rattle.dpl_report.specs.ReportLines.{numbered, cycle_numbers}
use Rattle.dpl_report.specs.Reading.{numbers_in, item_cycle}
use Rattle.dpl_report.specs.Valid.{IsIdentifier, IsCount, IsCycle}

-- the cycles of the cycle lines at the front, and the lines behind these
abbrev pub cycle_lines : List (List ℕ) → List Cycle × List (List ℕ)
cycle_lines ls = many (λ (s : ℕ). item_cycle) (λ _. zero) zero ls

-- the cycles of the cycle lines at the front of a text
abbrev pub cycles_in : List ℕ → List Cycle
cycles_in text = (cycle_lines (lines_in text)).0

-- the numbers in what is left of a line
abbrev pub edges_in : List ℕ → List ℕ
edges_in text = map unsigned_abs (numbers_in (32 ∷ text))

-- the first line, where there is one, begins as that of a cycle
abbrev pub BeginWithCycle : List (List ℕ) → Type 0
BeginWithCycle [] = Unit {0}
BeginWithCycle (l ∷ ls) = (rest : List ℕ) × (l ≡ codes "(cycle" ++ rest)

-- a cycle line, and what follows it
abbrev pub cycle_text : Cycle → List ℕ → List ℕ
cycle_text c after = codes "(cycle" ++ numbered (cycle_numbers c) (codes ");\n" ++ after)

-- a cycle line stands at the front, and this follows it
pub record IsCycleBefore (after text : List ℕ) : Type 0 where
  pub cycle : Cycle
  pub fits : IsCycle cycle
  pub is : text ≡ cycle_text cycle after

-- what is left of a cycle line behind some of its edges, and what follows the line
pub record AreEdges (after text : List ℕ) : Type 0 where
  pub edges : List ℕ
  pub small : AllByRecursion IsIdentifier edges
  pub is : text ≡ numbered (map pos edges) (codes ");\n" ++ after)

-- a number up to a limit stands at the front, and all its digits
pub record IsDecimal (most n : ℕ) (rest text : List ℕ) : Type 0 where
  pub small : n ≤ most
  pub ends : has_no_digit rest ≡ true
  pub is : text ≡ decimal n ++ rest

-- the same behind a space
pub record IsSpaced (most n : ℕ) (rest text : List ℕ) : Type 0 where
  pub small : n ≤ most
  pub ends : has_no_digit rest ≡ true
  pub is : text ≡ spaced (pos n) ++ rest

-- what a cycle line has before its edges, and the text from the edges on
pub record IsFront (half start : ℕ) (edges line : List ℕ) : Type 0 where
  pub some : 1 ≤ half
  pub half_is : IsCount half
  pub start_is : IsIdentifier start
  pub ends : has_no_digit edges ≡ true
  pub is : line ≡ codes "(cycle" ++ (spaced (pos half) ++ (spaced (pos start) ++ edges))
