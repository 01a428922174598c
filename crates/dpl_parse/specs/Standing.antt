-- Numbers of a line where they stand, and all their digits.
use Rattle.std.specs.Prelude.{◌≡◌, ◌≤◌, ℕ, ℤ, true, unsigned_abs, List, ◌++◌, codes}
use Rattle.std.specs.List.{AllByRecursion}
use Rattle.std.specs.Fmt.{signed_decimal}
use Rattle.dpl_lex.specs.Number.{greatest}
use Rattle.dpl_boxes.specs.Written.{has_no_digit}
use Rattle.dpl_report.specs.ReportLines.{numbered}

-- an integer of a magnitude of at most 10^12 stands at the front, and this follows it
pub record IsSigned (z : ℤ) (rest text : List ℕ) : Type 0 where
  pub near : unsigned_abs z ≤ greatest
  pub ends : has_no_digit rest ≡ true
  pub is : text ≡ signed_decimal z ++ rest

-- such integers stand at the front, each behind a space, and this follows them
pub record Stand (zs : List ℤ) (rest text : List ℕ) : Type 0 where
  pub near : AllByRecursion (λ z. unsigned_abs z ≤ greatest) zs
  pub ends : has_no_digit rest ≡ true
  pub is : text ≡ numbered zs rest

-- a line of such integers behind the letter of a box
pub record IsBoxLine (zs : List ℤ) (line : List ℕ) : Type 0 where
  pub near : AllByRecursion (λ z. unsigned_abs z ≤ greatest) zs
  pub is : line ≡ codes "B" ++ numbered zs (codes ";\n")
