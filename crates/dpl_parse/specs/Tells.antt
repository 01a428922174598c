-- What parsing answers.
use Rattle.std.specs.Prelude.{◌≡◌, ℕ, ◌+◌, ◌-◌, List, length, Result, Ok, Err}
use Rattle.dpl_form.specs.Lines.{lines_in}
use Rattle.dpl_form.specs.Readers.{whole}
use Rattle.dpl_parse.specs.declared.reading.ReadReport.{ReadReport}
use Rattle.dpl_parse.specs.declared.reading.ReportError.{ReportError}
use Rattle.dpl_parse.specs.declared.reading.ReportError.TheVariants.{NotReport, NoMemory}
use Rattle.dpl_report.specs.Plain.{PlainReport}
use Rattle.dpl_report.specs.Reading.{read_report}
use Rattle.dpl_parse.specs.Read.{plain_read}

-- the line before which so many lines of the text stand as reading leaves behind it
pub record StopsAt (text : List ℕ) (n : ℕ) : Type 0 where
  pub left : ℕ
  pub read : whole read_report (lines_in text) ≡ Err left
  pub number : n ≡ length (lines_in text) - left + 1

-- the answer is what reading gives, unless memory ran out
abbrev pub Tells : List ℕ → Result ReadReport ReportError → Type 0
Tells text (Ok r) = whole read_report (lines_in text) ≡ Ok (plain_read r)
Tells text (Err NoMemory) = Unit {0}
Tells text (Err (NotReport n)) = StopsAt text n

-- the answer is this report, unless memory ran out
abbrev pub GivesReport : PlainReport → Result ReadReport ReportError → Type 0
GivesReport r (Ok found) = plain_read found ≡ r
GivesReport r (Err NoMemory) = Unit {0}
GivesReport r (Err (NotReport n)) = ⊥
