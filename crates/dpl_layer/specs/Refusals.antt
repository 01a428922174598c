-- Why a text has no layer: a broken rule, or the first limit that is passed. Which comes first is our own rule.
use Rattle.std.specs.Prelude.{ℕ, ◌*◌, List, [], ◌∷◌, ◌++◌}
use Rattle.dpl_limits.specs.Limits.{most_of}
use Rattle.dpl_limits.specs.declared.counted.Counted.TheVariants as Counted
use Rattle.dpl_cell.specs.Places.{Corners}
use Rattle.dpl_cell.specs.Layers.{is_cell}
use Rattle.dpl_cell.specs.Tiles.{AreTiles}
use Rattle.dpl_tiles.specs.Counts.{HasMoreTiles}
use Rattle.dpl_cuts.specs.declared.types.Fragments.{Fragments}
use Rattle.dpl_cuts.specs.Fragments.{HasMoreFragments}
use Rattle.dpl_links.specs.Nets.{HasMoreEdges}
use Rattle.dpl_cif.specs.Reading.{primitives_of}
use Rattle.dpl_options.specs.Options.{PlainOptions}
use Rattle.dpl_layer.specs.declared.error.LayerError.{LayerError}
use Rattle.dpl_layer.specs.Reasons.{IsPassed}
use Rattle.dpl_layer.specs.Drawings.{Cells, kept_of, drawing_reasons}
use Rattle.dpl_layer.specs.Layers.{AreFragmentsOf}

-- the tiles of these cells, beside those of the cells that are kept whole, have too many fragments
pub record HasTooManyFragments (o : PlainOptions) (cells kept : Cells) : Type 0 where
  pub tiles : List Corners
  pub keep : List Corners
  pub are_tiles : AreTiles cells tiles
  pub are_kept : AreTiles kept keep
  pub many : HasMoreFragments keep (2 * o.space) (2 * o.overlap) tiles (most_of Counted.Fragments)

-- the fragments of these cells have too many edges
pub record HasTooManyEdges (o : PlainOptions) (cells kept : Cells) : Type 0 where
  pub fragments : Fragments
  pub are_fragments : AreFragmentsOf (2 * o.space) (2 * o.overlap) cells kept fragments
  pub many : HasMoreEdges fragments (2 * o.space) (most_of Counted.Edges)

-- why cells have no layer: too many tiles, also of the cells that are kept whole, or fragments, or edges
abbrev pub cells_reasons : PlainOptions → Cells → Cells → List (LayerError → Type 0)
cells_reasons o cells kept =
    IsPassed Counted.Tiles (HasMoreTiles cells (most_of Counted.Tiles))
    ∷ IsPassed Counted.Tiles (HasMoreTiles kept (most_of Counted.Tiles))
    ∷ IsPassed Counted.Fragments (HasTooManyFragments o cells kept)
    ∷ IsPassed Counted.Edges (HasTooManyEdges o cells kept) ∷ []

-- why a text has no layer: it is not drawn, or its cells have none
abbrev pub layer_reasons : PlainOptions → List ℕ → List (LayerError → Type 0)
layer_reasons o text = drawing_reasons o text
    ++ cells_reasons o (is_cell (primitives_of o.layer text)) (is_cell (kept_of o.keep text))
