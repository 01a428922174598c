-- What an accepted report means: its bound, and its masks.
use Rattle.std.proofs.Common.{◌≡◌, ◌∙◌, ℕ, List}
use Rattle.std.specs.Prelude.{Result, Ok, IfOk}
use Rattle.dpl_cell.specs.Places.{Corners}
use Rattle.dpl_cell.specs.Layers.{is_cell}
use Rattle.dpl_cell.specs.Tiles.{AreTiles}
use Rattle.dpl_tiles.specs.Union.{SharesOut}
use Rattle.dpl_cif.specs.Reading.{primitives_of}
use Rattle.dpl_options.specs.Options.{PlainOptions, AreOptions}
use Rattle.dpl_good.specs.MaskCells.{AreCutFrom}
use Rattle.dpl_good.proofs.MaskCellLemmas.{masks_of_layer}
use Rattle.dpl_good.proofs.TrueLemmas.{good_is_true}
use Rattle.dpl_layer.specs.declared.error.LayerError.{LayerError}
use Rattle.dpl_layer.specs.Drawings.{Cells, kept_of}
use Rattle.dpl_layer.proofs.ShareLemmas.{text_shares_out}
use Rattle.dpl_check.specs.declared.verdicts.Verdict.{Verdict}
use Rattle.dpl_check.specs.declared.verdicts.Verdict.TheVariants.{Yes}
use Rattle.dpl_check.specs.Checked.{IsAcceptedOf, IsAcceptedOfCells, IsVerdictOf, IsVerdictOfCells}
use Rattle.dpl_check.proofs.GoodLemmas.{good_bounds}

accepted_of_cells : (o : PlainOptions) (report : List ℕ) (cost bound : ℕ) → AreOptions o
    → (cells kept : Cells) → ((tiles : List Corners) → AreTiles cells tiles → SharesOut cells tiles)
    → IsVerdictOfCells o report (Yes cost bound) cells kept → IsAcceptedOfCells o report cost bound cells kept
accepted_of_cells o report cost bound ranges cells kept shared y =
    let g = y.verdict.good in
    let a = y.layer.layer.fragments in
    let h = shared a.tiles a.are_tiles in
    let from : AreCutFrom o cells a.tiles y.fragments = record {
      keep = a.keep;
      label = a.label;
      count = a.count;
      drawn = h.drawn;
      apart = h.apart;
      shapes = a.are_shapes;
      fragments = a.are_fragments;
    } in
    record {
      fragments = y.fragments;
      net = y.net;
      layer = y.layer;
      report = g.report;
      written = g.written;
      costs = y.verdict.cost_is ∙ (good_is_true o y.fragments y.net g.report ranges g.valid g.good).cost;
      bounds = good_bounds o y.fragments y.net report cost bound y.verdict;
      masks = masks_of_layer o cells a.tiles y.fragments y.net g.report ranges g.valid g.good y.layer.layer.net from;
    }

-- what an accepted report means for the layer
pub yes_accepts : (o : PlainOptions) (text report : List ℕ) (result : Result Verdict LayerError) → AreOptions o
    → IfOk result (λ v. IsVerdictOf o text report v) → (cost bound : ℕ) → result ≡ Ok (Yes cost bound) → IsAcceptedOf o text report cost bound
yes_accepts o text report result ranges a cost bound h =
    let y = rw h at a in (
      y.0,
      accepted_of_cells o report cost bound ranges (is_cell (primitives_of o.layer text)) (is_cell (kept_of o.keep text))
          (text_shares_out o text y.0) y.1,
    )
