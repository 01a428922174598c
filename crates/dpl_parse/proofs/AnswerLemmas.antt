-- What an answer says of the text.
use Rattle.std.proofs.Common.{◌≡◌, ℕ, List, sym, ◌∙◌, Result, Ok, Err, IfOk}
use Rattle.dpl_form.specs.Lines.{lines_in}
use Rattle.dpl_form.specs.Readers.{IsFirstWrong}
use Rattle.dpl_parse.specs.declared.reading.ReadReport.{ReadReport}
use Rattle.dpl_parse.specs.declared.reading.ReportError.{ReportError}
use Rattle.dpl_parse.specs.declared.reading.ReportError.TheVariants.{NotReport, NoMemory}
use Rattle.dpl_report.specs.Plain.{PlainReport}
use Rattle.dpl_parse.specs.Read.{plain_read}
use Rattle.dpl_report.specs.ReportLines.{report_lines, report_text}
use Rattle.dpl_report.specs.Valid.{IsReport}
use Rattle.dpl_parse.specs.Tells.{Tells, GivesReport}
use Rattle.dpl_report.proofs.TextFormat.{text_is_found, text_is_read, text_is_wrong}

pub answer_found : (text : List ℕ) (a : Result ReadReport ReportError) → Tells text a
    → IfOk a (λ r. IsReport (plain_read r) × (text ≡ report_text (plain_read r)))
answer_found text (Ok r) t = text_is_found text (plain_read r) t
answer_found text (Err e) t = tt

pub answer_only : (text : List ℕ) (a : Result ReadReport ReportError) (r : PlainReport) → Tells text a → IsReport r → text ≡ report_text r → GivesReport r a
answer_only text (Ok found) r t f e = let d = sym t ∙ text_is_read text r f e in cc
answer_only text (Err NoMemory) r t f e = tt
answer_only text (Err (NotReport n)) r t f e = let d = sym t.read ∙ text_is_read text r f e in absurd (cc)

pub answer_wrong : (text : List ℕ) (a : Result ReadReport ReportError) (n : ℕ) → Tells text a
    → a ≡ Err (NotReport n) → IsFirstWrong report_lines IsReport (lines_in text) n
answer_wrong text (Ok found) n t e = absurd (cc)
answer_wrong text (Err NoMemory) n t e = absurd (cc)
answer_wrong text (Err (NotReport m)) n t e =
    let same : m ≡ n = cc in
    rw (← same, t.number) (text_is_wrong text t.left t.read)
