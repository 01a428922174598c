-- The masks of a report of a layer, and the report of a layer of a text.
use Rattle.std.proofs.Common.{ℕ, List, refl}
use Rattle.dpl_cell.specs.Places.{Corners}
use Rattle.dpl_cuts.specs.declared.types.Fragments.{Fragments}
use Rattle.dpl_sign.specs.declared.nets.Net.{Net}
use Rattle.dpl_options.specs.Options.{PlainOptions}
use Rattle.dpl_report.specs.Plain.{PlainReport}
use Rattle.dpl_report.specs.ReportLines.{report_text}
use Rattle.dpl_good.specs.MaskCells.{AreCutFrom, AreMasksOf}
use Rattle.dpl_links.proofs.NetLemmas.{net_ties}
use Rattle.dpl_good.proofs.BrokenLemmas.{net_takes}
use Rattle.dpl_good.proofs.FactLemmas.{facts_of_truth}
use Rattle.dpl_balance.specs.Balance.{AreBalanced}
use Rattle.dpl_layer.specs.Drawings.{Cells, OnLayer}
use Rattle.dpl_layer.specs.Layers.{IsCutLayer, IsLayerOfText}
use Rattle.dpl_layer.proofs.TextLemmas.{on_layer}
use Rattle.dpl_core.specs.Reports.{HaveMasks, IsReportOfNet, IsReportOfCells, IsReportOf, IsBalancedOfCells}

-- masks over fragments cut from the tiles of any cells are those of the cells of the layer
pub masks_of_layer : (o : PlainOptions) (f : Fragments) (n : Net) (r : PlainReport)
    → ((cells : Cells) (tiles : List Corners) → AreCutFrom o cells tiles f → AreMasksOf o cells tiles f n r)
    → HaveMasks o f n r
masks_of_layer o f n r law cells kept k =
    let a = k.is.layer.fragments in
    let h = k.shared a.tiles a.are_tiles in
    let from : AreCutFrom o cells a.tiles f = record {
      keep = a.keep;
      label = a.label;
      count = a.count;
      drawn = h.drawn;
      apart = h.apart;
      shapes = a.are_shapes;
      fragments = a.are_fragments;
    } in
    law cells a.tiles from

-- a report of the net of a layer is one of its cells
pub report_of_cells : (o : PlainOptions) (f : Fragments) (n : Net) (r : PlainReport) → IsReportOfNet o f n r
    → HaveMasks o f n r → (cells kept : Cells) → IsCutLayer o cells kept f n → IsReportOfCells o r cells kept
report_of_cells o f n r is masks cells kept l =
    let net = l.is.layer.net in
    record {
      fragments = f;
      net = n;
      layer = l.is;
      facts = facts_of_truth o f n (report_text r) r (net_takes o.weights net.bonds f.cuts net.links n.graph.edges (net_ties f o.weights _ n net)) is.valid refl is.truth;
      tight = is.tight;
      least = is.least;
      masks = masks cells kept l;
    }

-- a report of the net of a text's layer is one of the text
pub report_of_text : (o : PlainOptions) (text : List ℕ) (f : Fragments) (n : Net) (r : PlainReport)
    → IsReportOfNet o f n r → HaveMasks o f n r → IsLayerOfText o text f n → IsReportOf o text r
report_of_text o text f n r is masks l = on_layer o text (λ cells kept. IsCutLayer o cells kept f n) (IsReportOfCells o r) (report_of_cells o f n r is masks) l

-- the same of a report whose masks cover about the same area
pub balanced_of_text : (o : PlainOptions) (text : List ℕ) (f : Fragments) (n : Net) (r : PlainReport)
    → IsReportOfNet o f n r → HaveMasks o f n r → AreBalanced f n r.head.colours → IsLayerOfText o text f n
    → OnLayer o text (IsBalancedOfCells o r)
unfolding report_of_cells
balanced_of_text o text f n r is masks even l =
    on_layer o text (λ cells kept. IsCutLayer o cells kept f n) (IsBalancedOfCells o r)
    (λ cells kept k. record { of_cells = report_of_cells o f n r is masks cells kept k; even = even }) l
