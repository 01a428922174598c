-- What `edit` answers for a layout and a script: why the layout gives no content, which line of the script stops it, or the
-- text of a report of the content after the last line.
use Rattle.std.specs.Prelude.{◌≡◌, ◌⊎◌, ◌+◌, ℕ, List, [], ◌∷◌, ◌++◌, map, fold}
use Rattle.dpl_cell.specs.declared.layout.Primitive.{Primitive}
use Rattle.dpl_options.specs.Options.{PlainOptions}
use Rattle.dpl_layer.specs.declared.error.LayerError.{LayerError}
use Rattle.dpl_layer.specs.declared.drawing.Drawing.{Drawing}
use Rattle.dpl_layer.specs.Reasons.{FirstOf, NoneOf}
use Rattle.dpl_layer.specs.Drawings.{IsDrawingOf, drawing_reasons}
use Rattle.dpl_core.specs.Reports.{IsReportOfCells, IsTextOf}
use Rattle.dpl_edit.specs.declared.placed.Placed.{Placed}
use Rattle.dpl_edit.specs.Contents.{content, cells_in, boxes_without, HasBox, content_reasons}
use Rattle.dpl_edit.specs.Sessions.{State}
use Rattle.dpl_words.specs.declared.edits.Line.{Line}
use Rattle.dpl_words.specs.declared.edits.Line.TheVariants.{Add, Remove}
use Rattle.dpl_words.specs.Scripts.{plain_line, IsScript, IsFirstBad}
use Rattle.dpl_run.specs.declared.status.Status.{Status}
use Rattle.dpl_run.specs.declared.status.Status.TheVariants.{Done, Script}
use Rattle.dpl_run.specs.Errors.{status_of}

-- ---- a layer under edits

-- what was there at first, the boxes that were added and not removed, and how many were added
pub record Edits : Type 0 where
  pub options : PlainOptions
  pub begun : List Primitive
  pub keep : List Primitive
  pub boxes : List Placed
  pub count : ℕ

-- a drawing to which nothing was added
abbrev pub begun_with : PlainOptions → Drawing → Edits
begun_with o d =
    record { options = o; begun = d.layer.prims; keep = d.keep.prims; boxes = []; count = 0 }

-- what a session holds, without its optimum
abbrev pub edits_of : State → Edits
edits_of s = record {
  options = s.options;
  begun = s.begun;
  keep = s.keep;
  boxes = s.boxes;
  count = s.count;
}

-- after a line: one box more, numbered by the count of those before, or all but the one it names
abbrev pub edited : Line → Edits → Edits
edited (Add rect) s = record s {
  boxes = s.boxes ++ record { number = s.count; rect = rect } ∷ [];
  count = s.count + 1;
}
edited (Remove number) s = record s { boxes = boxes_without number s.boxes }

-- the line removes a box that is not there
abbrev pub IsMissing : Line → Edits → Type 0
IsMissing (Add rect) s = ⊥
IsMissing (Remove number) s = ¬ HasBox number s.boxes

-- why the content has no report
abbrev pub edits_reasons : Edits → List (LayerError → Type 0)
edits_reasons s = content_reasons s.options (content s.begun s.boxes) s.keep

-- the output is the text of a report of the content
abbrev pub Reports : Edits → List ℕ → Type 0
Reports s output = IsTextOf (λ r. IsReportOfCells s.options r
    (cells_in (content s.begun s.boxes)) (cells_in s.keep)) output

-- the line with this number names a box that is not there, or the content after it is refused
pub data StopsAt (s : Edits) (number : ℕ) (line : Line) : Status → List ℕ → Type 0 where
  missing : IsMissing line s → StopsAt s number line (Script number 2) []
  over : (e : LayerError) → ¬ IsMissing line s → FirstOf (edits_reasons (edited line s)) e →
      StopsAt s number line (status_of e) []

-- the line names no box that is not there, and the content after it is not refused
pub record IsTaken (s : Edits) (line : Line) : Type 0 where
  pub there : ¬ IsMissing line s
  pub within : NoneOf (edits_reasons (edited line s))

-- the first line that stops is answered, and where none does a report of the last content is written; the first of these
-- lines has this number
abbrev pub AreEditsDue : Edits → ℕ → List Line → Status → List ℕ → Type 0
AreEditsDue s number [] status output = (status ≡ Done) × Reports s output
AreEditsDue s number (line ∷ lines) status output = StopsAt s number line status output
    ⊎ (IsTaken s line × AreEditsDue (edited line s) (number + 1) lines status output)

-- a line of the script is not of the form, or its lines are applied in order
pub data IsScriptDue (s : Edits) (script : List ℕ) : Status → List ℕ → Type 0 where
  bad_line : (line : ℕ) → IsFirstBad script line → IsScriptDue s script (Script line 1) []
  applied : (lines : List Line) → IsScript script (map plain_line lines) →
      (status : Status) (output : List ℕ) → AreEditsDue s 1 lines status output →
      IsScriptDue s script status output

-- the layout has no drawing, or its content is refused, or the script is followed
pub data IsEditDue (o : PlainOptions) (text script : List ℕ) : Status → List ℕ → Type 0 where
  unread : (e : LayerError) → FirstOf (drawing_reasons o text) e →
      IsEditDue o text script (status_of e) []
  too_much : (d : Drawing) → IsDrawingOf o text d → (e : LayerError) →
      FirstOf (edits_reasons (begun_with o d)) e → IsEditDue o text script (status_of e) []
  begun : (d : Drawing) → IsDrawingOf o text d → NoneOf (edits_reasons (begun_with o d)) →
      (status : Status) (output : List ℕ) → IsScriptDue (begun_with o d) script status output →
      IsEditDue o text script status output

-- the content passes no limit, at first and after each line, and each box that is removed is there
abbrev pub AreTaken : Edits → List Line → Type 0
AreTaken s [] = NoneOf (edits_reasons s)
AreTaken s (line ∷ lines) =
    NoneOf (edits_reasons s) × (¬ IsMissing line s) × AreTaken (edited line s) lines

-- a script whose lines are all taken, and the text of a report of the content after the last
pub record IsFollowed (o : PlainOptions) (text script output : List ℕ) : Type 0 where
  pub drawing : Drawing
  pub lines : List Line
  pub drawn : IsDrawingOf o text drawing
  pub written : IsScript script (map plain_line lines)
  pub taken : AreTaken (begun_with o drawing) lines
  pub reports : Reports (fold (λ s line. edited line s) (begun_with o drawing) lines) output
