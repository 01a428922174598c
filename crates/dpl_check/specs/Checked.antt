-- The verdict on a report text against the text of a layout.
use Rattle.std.specs.Prelude.{◌≡◌, ℕ, ◌*◌, ◌≤◌, Bool, List}
use Rattle.dpl_cuts.specs.declared.types.Fragments.{Fragments}
use Rattle.dpl_sign.specs.declared.nets.Net.{Net}
use Rattle.dpl_sign.specs.Colourings.{IsColouring, cost_of}
use Rattle.dpl_options.specs.Options.{PlainOptions}
use Rattle.dpl_report.specs.Plain.{PlainReport}
use Rattle.dpl_report.specs.ReportLines.{report_text}
use Rattle.dpl_good.specs.MaskCells.{AreMasksOf}
use Rattle.dpl_layer.specs.Drawings.{Cells, OnLayer}
use Rattle.dpl_layer.specs.Layers.{IsLayer}
use Rattle.dpl_check.specs.declared.verdicts.Verdict.{Verdict}
use Rattle.dpl_check.specs.Judged.{IsVerdict}

-- this is the verdict for the fragments and the net of the layer of these cells, of which some are kept whole
pub record IsVerdictOfCells (o : PlainOptions) (report : List ℕ) (v : Verdict) (cells kept : Cells) : Type 0 where
  pub fragments : Fragments
  pub net : Net
  pub layer : IsLayer o cells kept fragments net
  pub verdict : IsVerdict o fragments net report v

-- both layers are read, the layer is within the limits, and this is the verdict for it
abbrev pub IsVerdictOf : PlainOptions → List ℕ → List ℕ → Verdict → Type 0
IsVerdictOf o text report v = OnLayer o text (IsVerdictOfCells o report v)

-- What an accepted report of this cost and this bound means for the layer of these cells: the masks of the report are those
-- of the layer, they cost so much, and every colouring costs at least half of the bound.
pub record IsAcceptedOfCells (o : PlainOptions) (text : List ℕ) (cost bound : ℕ)
    (cells kept : Cells) : Type 0 where
  pub fragments : Fragments
  pub net : Net
  pub layer : IsLayer o cells kept fragments net
  pub report : PlainReport
  pub written : text ≡ report_text report
  pub costs : cost ≡ cost_of net.graph report.head.colours
  pub bounds : (colours : List Bool) → IsColouring net.graph colours →
      bound ≤ 2 * cost_of net.graph colours
  pub masks : AreMasksOf o cells layer.layer.fragments.tiles fragments net report

-- the same for the layer of a text
abbrev pub IsAcceptedOf : PlainOptions → List ℕ → List ℕ → ℕ → ℕ → Type 0
IsAcceptedOf o text report cost bound = OnLayer o text (IsAcceptedOfCells o report cost bound)
