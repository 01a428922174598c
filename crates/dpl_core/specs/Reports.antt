-- The report of a layer of a text, and what its bound proves.
use Rattle.std.specs.Prelude.{◌≡◌, ◌↔◌, ◌+◌, ◌*◌, ◌<◌, ◌≤◌, ℕ, Bool, true, false, List, [], length, None, is_some}
use Rattle.dpl_sign.specs.declared.nets.Net.{Net}
use Rattle.dpl_sign.specs.Colourings.{IsColouring, colour_of, cost_of}
use Rattle.dpl_sign.specs.Drawings.{face_count}
use Rattle.dpl_sign.specs.Excess.{excess, all_edges, is_aside}
use Rattle.dpl_sign.specs.Walks.{edge_at}
use Rattle.dpl_cuts.specs.declared.types.Fragments.{Fragments}
use Rattle.dpl_options.specs.Options.{PlainOptions}
use Rattle.dpl_report.specs.Plain.{PlainHead, PlainReport}
use Rattle.dpl_report.specs.ReportLines.{report_text}
use Rattle.dpl_report.specs.Valid.{IsReport}
use Rattle.dpl_good.specs.Facts.{AreNineFacts}
use Rattle.dpl_good.specs.Truths.{SaysTrue}
use Rattle.dpl_good.specs.Verdicts.{refusal_of}
use Rattle.dpl_good.specs.MaskCells.{AreMasksOf}
use Rattle.dpl_solve.specs.Named.{keeps, odd_faces}
use Rattle.dpl_solve.specs.Solved.{kept_cost, aside_cost, KeepToKept, PassOnce}
use Rattle.dpl_layer.specs.Drawings.{Cells, OnLayer}
use Rattle.dpl_layer.specs.Layers.{IsLayer, IsCutLayer}
use Rattle.dpl_balance.specs.Balance.{AreBalanced}
use Rattle.dpl_refine.specs.Components.{is_around}
use Rattle.dpl_refine.specs.Refined.{IsRefined}

-- Of a report with this head that sets these edges aside: every colouring of the net costs at least half the bound, none
-- breaks kept edges of a smaller weight, and where the drawing is plane, and so nothing is set aside, none costs less.
pub record CostsLeast (net : Net) (head : PlainHead) (aside : List ℕ) : Type 0 where
  pub half : (colours : List Bool) → IsColouring net.graph colours
      → head.bound ≤ 2 * cost_of net.graph colours
  pub kept : (colours : List Bool) → IsColouring net.graph colours
      → kept_cost net head.colours ≤ kept_cost net colours
  pub plane : (aside ≡ []) ↔ (excess net all_edges ≡ 0)
  pub all : excess net all_edges ≡ 0 → (colours : List Bool) → IsColouring net.graph colours
      → head.cost ≤ cost_of net.graph colours

-- The bound is twice the weight of the broken kept edges, and the cost exceeds half of it by that
-- of the broken edges set aside. The cycles pass kept edges, each no edge twice.
pub record IsTight (net : Net) (r : PlainReport) : Type 0 where
  pub corner : is_some r.head.params.corner ≡ true
  pub kept : KeepToKept net r.lists.cycles
  pub once : PassOnce r.lists.cycles
  pub few : length r.lists.cycles ≤ face_count net (keeps net) + 2 * length (odd_faces net)
  pub tight : r.head.bound ≡ 2 * kept_cost net r.head.colours
  pub rest : r.head.cost ≡ kept_cost net r.head.colours + aside_cost net r.head.colours

-- The report of the layer of these cells: the nine facts of a good report hold, its bound is
-- tight, no pair of masks costs less than that says, and its masks are those of the layer.
pub record IsReportOfCells (o : PlainOptions) (r : PlainReport) (cells kept : Cells) : Type 0 where
  pub fragments : Fragments
  pub net : Net
  pub layer : IsLayer o cells kept fragments net
  pub facts : AreNineFacts o fragments net (report_text r) r
  pub tight : IsTight net r
  pub least : CostsLeast net r.head r.lists.aside
  pub masks : AreMasksOf o cells layer.layer.fragments.tiles fragments net r

-- such a report, whose two masks differ in area by no more than they differ within one component
pub record IsBalancedOfCells (o : PlainOptions) (r : PlainReport) (cells kept : Cells) : Type 0 where
  pub of_cells : IsReportOfCells o r cells kept
  pub even : AreBalanced of_cells.fragments of_cells.net r.head.colours

-- the output is the text of such a report
pub record IsTextOf (P : PlainReport → Type 0) (output : List ℕ) : Type 0 where
  pub report : PlainReport
  pub has : P report
  pub is : output ≡ report_text report

-- the report of the layer of the text, with its masks
abbrev pub IsReportOf : PlainOptions → List ℕ → PlainReport → Type 0
IsReportOf o text r = OnLayer o text (IsReportOfCells o r)

abbrev pub IsSplit : PlainOptions → List ℕ → List ℕ → Type 0
IsSplit o text output = IsTextOf (IsReportOf o text) output

-- its masks cover about the same area
abbrev pub IsBalancedSplit : PlainOptions → List ℕ → List ℕ → Type 0
IsBalancedSplit o text output = IsTextOf (λ r. OnLayer o text (IsBalancedOfCells o r)) output

-- no edge of the component of the node is set aside
abbrev pub HasNothingAside : Net → ℕ → Type 0
HasNothingAside net u = (e : ℕ) → e < length net.graph.edges
    → is_around net.graph u (edge_at net.graph e).a ≡ true → is_aside net e ≡ false

-- a fragment of whose component nothing is set aside has the colour that it had
abbrev pub IsUntouched : Net → List Bool → List Bool → Type 0
IsUntouched net before after = (u : ℕ) → u < net.graph.nodes → HasNothingAside net u
    → colour_of after u ≡ colour_of before u

-- The report of the layer of these cells with refined colours: the nine facts hold, and its masks are those of the layer.
-- Beside it stands a tight report of the same layer, in which no pair of masks costs less than that says. The refined
-- colours cost less than its colours, or are the same, and no piece of them can be turned over alone to cost less; where
-- nothing of a component is set aside, they are its colours; the bound is at least its bound. Where the drawing is plane, it
-- is that report.
pub record IsRefinedOfCells (o : PlainOptions) (r : PlainReport) (cells kept : Cells) : Type 0 where
  pub fragments : Fragments
  pub net : Net
  pub layer : IsLayer o cells kept fragments net
  pub facts : AreNineFacts o fragments net (report_text r) r
  pub masks : AreMasksOf o cells layer.layer.fragments.tiles fragments net r
  pub tight : PlainReport
  pub tight_facts : AreNineFacts o fragments net (report_text tight) tight
  pub is_tight : IsTight net tight
  pub least : CostsLeast net tight.head tight.lists.aside
  pub refined : IsRefined net.graph tight.head.colours r.head.colours
  pub untouched : IsUntouched net tight.head.colours r.head.colours
  pub bound : tight.head.bound ≤ r.head.bound
  pub plane : excess net all_edges ≡ 0 → r ≡ tight
  -- every colouring costs at least half the bound, so where the cost is that, none costs less
  pub half : (colours : List Bool) → IsColouring net.graph colours
      → r.head.bound ≤ 2 * cost_of net.graph colours
  pub met : 2 * r.head.cost ≡ r.head.bound → (colours : List Bool) → IsColouring net.graph colours
      → r.head.cost ≤ cost_of net.graph colours

-- the output is the text of such a report
abbrev pub IsRefinedSplit : PlainOptions → List ℕ → List ℕ → Type 0
IsRefinedSplit o text output = IsTextOf (λ r. OnLayer o text (IsRefinedOfCells o r)) output

-- ---- words of the steps

-- The report says the truth of these fragments and this net, so it is valid, and the checker finds it good; and it is
-- tight, so its colouring is the least.
pub record IsReportOfNet (o : PlainOptions) (f : Fragments) (net : Net) (r : PlainReport) : Type 0 where
  pub truth : SaysTrue o f net r
  pub valid : IsReport r
  pub good : refusal_of o f net r ≡ None
  pub tight : IsTight net r
  pub least : CostsLeast net r.head r.lists.aside

-- The report says the truth with colours that were refined from those of a tight report, and are its colours where nothing
-- of a component is set aside. Its bound is at least that
-- report's, and it is that report where the drawing is plane.
pub record IsRefinedOfNet (o : PlainOptions) (f : Fragments) (net : Net) (r : PlainReport) : Type 0 where
  pub truth : SaysTrue o f net r
  pub valid : IsReport r
  pub good : refusal_of o f net r ≡ None
  pub tight : PlainReport
  pub of : IsReportOfNet o f net tight
  pub refined : IsRefined net.graph tight.head.colours r.head.colours
  pub untouched : IsUntouched net tight.head.colours r.head.colours
  pub bound : tight.head.bound ≤ r.head.bound
  pub plane : excess net all_edges ≡ 0 → r ≡ tight

-- the masks of a layer's report are those of whatever cells the layer is of
abbrev pub HaveMasks : PlainOptions → Fragments → Net → PlainReport → Type 0
HaveMasks o f n r = (cells kept : Cells) (l : IsCutLayer o cells kept f n) →
    AreMasksOf o cells l.is.layer.fragments.tiles f n r
