-- What a session holds, and its report.
use Rattle.std.specs.Prelude.{◌≡◌, ℕ, List, []}
use Rattle.dpl_cell.specs.declared.layout.Primitive.{Primitive}
use Rattle.dpl_options.specs.Options.{PlainOptions}
use Rattle.dpl_report.specs.Plain.{PlainReport}
use Rattle.dpl_layer.specs.declared.drawing.Drawing.{Drawing}
use Rattle.dpl_core.specs.Reports.{IsReportOfCells}
use Rattle.dpl_edit.specs.declared.placed.Placed.{Placed}
use Rattle.dpl_edit.specs.declared.errors.RemoveError.{RemoveError}
use Rattle.dpl_edit.specs.declared.errors.RemoveError.TheVariants.{NoBox, Refused}
use Rattle.dpl_edit.specs.Contents.{content, cells_in, boxes_without, HasBox, Refuses}
use Rattle.dpl_edit.specs.Optima.{Optimum, IsSolvedContent}

-- a session: the options, the primitives that it began with, those of the keep layer, the boxes that were added and not
-- removed, how many were added, and the optimum of its content
pub record State : Type 0 where
  pub options : PlainOptions
  pub begun : List Primitive
  pub keep : List Primitive
  pub boxes : List Placed
  pub count : ℕ
  pub solved : Optimum

abbrev pub content_of : State → List Primitive
content_of s = content s.begun s.boxes

-- its content passes no limit, and its optimum is one of the content
abbrev pub IsSession : State → Type 0
IsSession s = IsSolvedContent s.options (content_of s) s.keep s.solved

-- a session that begins with this drawing
pub record IsBegun (o : PlainOptions) (d : Drawing) (s : State) : Type 0 where
  pub options : s.options ≡ o
  pub begun : s.begun ≡ d.layer.prims
  pub keep : s.keep ≡ d.keep.prims
  pub boxes : s.boxes ≡ []
  pub count : s.count ≡ 0

-- an edit leaves these boxes, and so many that were added
pub record IsEdited (before after : State) (boxes : List Placed) (count : ℕ) : Type 0 where
  pub options : after.options ≡ before.options
  pub begun : after.begun ≡ before.begun
  pub keep : after.keep ≡ before.keep
  pub boxes_are : after.boxes ≡ boxes
  pub count_is : after.count ≡ count

-- no box has the number, or the content without it is refused
abbrev pub RefusesRemoval : State → ℕ → RemoveError → Type 0
RefusesRemoval s number (NoBox n) = (n ≡ number) × ¬ HasBox number s.boxes
RefusesRemoval s number (Refused e) = HasBox number s.boxes
    × Refuses s.options (content s.begun (boxes_without number s.boxes)) s.keep e

-- a report of the content, good and tight, that shows the session's masks
pub record IsReportOf (s : State) (r : PlainReport) : Type 0 where
  pub of_cells : IsReportOfCells s.options r (cells_in (content_of s)) (cells_in s.keep)
  pub colours : r.head.colours ≡ s.solved.colours
