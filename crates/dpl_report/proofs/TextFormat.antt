-- The text of a report is read as it was written.
use Rattle.std.proofs.Common.{◌≡◌, ℕ, ◌+◌, ◌-◌, true, List, ◌∷◌, ◌++◌, length, map, refl}
use Rattle.std.proofs.Common.{sym, ap, ◌∙◌, codes, Ok, Err}
use Rattle.std.specs.List.{AllByRecursion}
use Rattle.dpl_cell.specs.Places.{Corners}
use Rattle.dpl_cell.specs.Ranges.{IsRectangle}
use Rattle.dpl_boxes.specs.Masks.{box_line}
use Rattle.dpl_form.specs.Lines.{lines_in, text_of, is_line}
use Rattle.dpl_form.specs.Readers.{whole, IsFirstWrong}
use Rattle.dpl_form.proofs.TextLemmas.{IsLine, text_of-lines_in, lines_in-text_of}
use Rattle.dpl_form.proofs.Formats.{Anywhere, whole_found, whole_again, whole_stops}
use Rattle.dpl_report.specs.Plain.{PlainReport}
use Rattle.dpl_report.specs.ReportLines.{mask_line, mask_lines, head_lines, lists_lines, drawing_lines}
use Rattle.dpl_report.specs.ReportLines.{report_lines, report_text, last_lines}
use Rattle.dpl_report.specs.Valid.{IsReport}
use Rattle.dpl_options.specs.Options.{IsSplitLayer}
use Rattle.dpl_report.specs.Reading.{read_report}
use Rattle.dpl_report.proofs.LineLemmas.{is_line-append, is_line-box}
use Rattle.dpl_report.proofs.CommentLemmas.{IsComment, each-append, each-weaker, each-map}
use Rattle.dpl_report.proofs.CommentLemmas.{comment_bytes-name, head_are_comments, lists_are_comments}
use Rattle.dpl_report.proofs.ItemLemmas.{box_near}
use Rattle.dpl_report.proofs.ReportFormat.{report_format}

-- ---- each line has one line end

comment_is_line : (l : List ℕ) → IsComment l → IsLine l
comment_is_line l c = ap is_line c.line ∙ is_line-append c.inner (codes ");\n") c.bytes

comments_are_lines : (ls : List (List ℕ)) → AllByRecursion IsComment ls → AllByRecursion IsLine ls
comments_are_lines ls a = each-weaker IsComment IsLine comment_is_line ls a

mask_is_line : (name : List ℕ) (mask : ℕ) → IsSplitLayer name → is_line (mask ∷ codes ";\n") ≡ true → IsLine (mask_line name mask)
mask_is_line name mask f m = is_line-append name (mask ∷ codes ";\n") (comment_bytes-name name f) ∙ m

boxes_are_lines : (boxes : List Corners) → AllByRecursion IsRectangle boxes → AllByRecursion IsLine (map box_line boxes)
boxes_are_lines boxes f = each-map IsLine IsRectangle box_line (λ b r. is_line-box b (box_near b r)) boxes f

drawing_are_lines : (name : List ℕ) (on_a on_b : List Corners) → IsSplitLayer name
    → AllByRecursion IsRectangle on_a → AllByRecursion IsRectangle on_b
    → AllByRecursion IsLine (drawing_lines name on_a on_b)
drawing_are_lines name on_a on_b f a b = (
  refl,
  (
    mask_is_line name 65 f refl,
    each-append IsLine (map box_line on_a) (mask_lines name 66 on_b ++ last_lines) (boxes_are_lines on_a a) (
      mask_is_line name 66 f refl,
      each-append IsLine (map box_line on_b) last_lines (boxes_are_lines on_b b) (refl, (refl, (refl, tt))),
    ),
  ),
)

report_are_lines : (r : PlainReport) → IsReport r → AllByRecursion IsLine (report_lines r)
report_are_lines r f =
    each-append IsLine (head_lines r.head) (lists_lines r.lists ++ drawing_lines r.head.params.layer r.on_a r.on_b)
    (comments_are_lines (head_lines r.head) (head_are_comments r.head f.head))
    (each-append IsLine (lists_lines r.lists) (drawing_lines r.head.params.layer r.on_a r.on_b)
    (comments_are_lines (lists_lines r.lists) (lists_are_comments r.lists f.lists))
    (drawing_are_lines r.head.params.layer r.on_a r.on_b f.head.params.layer f.on_a f.on_b))

-- ---- the text

-- a text that is read as a report is the text of that report
pub text_is_found : (text : List ℕ) (r : PlainReport) → whole read_report (lines_in text) ≡ Ok r → IsReport r × (text ≡ report_text r)
text_is_found text r e =
    let f = whole_found read_report report_lines IsReport Anywhere report_format (lines_in text) r e in
    (f.0, sym (text_of-lines_in text) ∙ ap text_of f.1)

-- the text of a report is read as that report
pub text_is_read : (text : List ℕ) (r : PlainReport) → IsReport r → text ≡ report_text r → whole read_report (lines_in text) ≡ Ok r
text_is_read text r f e = ap (whole read_report) (ap lines_in e ∙
    lines_in-text_of (report_lines r) (report_are_lines r f)) ∙
    whole_again read_report report_lines IsReport Anywhere report_format r f tt

-- where reading stops, it names the first line that cannot stand
pub text_is_wrong : (text : List ℕ) (left : ℕ) → whole read_report (lines_in text) ≡ Err left
    → IsFirstWrong report_lines IsReport (lines_in text) (length (lines_in text) - left + 1)
text_is_wrong text left e = whole_stops read_report report_lines IsReport Anywhere report_format (λ r f. tt) (lines_in text) left e

-- no two reports have the same text
pub same_text : (r s : PlainReport) → IsReport r → IsReport s → report_text r ≡ report_text s → r ≡ s
same_text r s f g e = let d = sym (text_is_read (report_text r) r f refl) ∙ text_is_read (report_text r) s g e in cc
