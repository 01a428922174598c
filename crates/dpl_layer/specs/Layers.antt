-- The fragments of a layer and their net.
use Rattle.std.specs.Prelude.{ℕ, ◌*◌, ◌≤◌, List, length}
use Rattle.dpl_limits.specs.Limits.{most_of}
use Rattle.dpl_limits.specs.declared.counted.Counted.TheVariants as Counted
use Rattle.dpl_cell.specs.Places.{Corners}
use Rattle.dpl_cell.specs.Tiles.{AreTiles}
use Rattle.dpl_tiles.specs.Union.{SharesOut}
use Rattle.dpl_near.specs.Shapes.{AreShapes}
use Rattle.dpl_cuts.specs.declared.types.Fragments.{Fragments}
use Rattle.dpl_cuts.specs.Fragments.{AreFragments, CameFromCut}
use Rattle.dpl_sign.specs.declared.nets.Net.{Net}
use Rattle.dpl_links.specs.Nets.{IsNet}
use Rattle.dpl_options.specs.Options.{PlainOptions}
use Rattle.dpl_layer.specs.Drawings.{Cells, OnLayer}

-- the fragments of these cells, with no cut in a cell that is kept whole; lengths are in grid units
pub record AreFragmentsOf (space over : ℕ) (cells kept : Cells) (f : Fragments) : Type 0 where
  pub tiles : List Corners
  pub label : List ℕ
  pub count : ℕ
  pub keep : List Corners
  pub are_tiles : AreTiles cells tiles
  pub are_shapes : AreShapes tiles label count
  pub are_kept : AreTiles kept keep
  pub are_fragments : AreFragments keep space over tiles label f

-- the fragments and the net of these cells by the options, of which a hundredth is two grid units
pub record IsLayerOf (o : PlainOptions) (cells kept : Cells) (f : Fragments)
    (n : Net) : Type 0 where
  pub fragments : AreFragmentsOf (2 * o.space) (2 * o.overlap) cells kept f
  pub net : IsNet f o.weights (2 * o.space) n

-- the layer of these cells within the limits
pub record IsLayer (o : PlainOptions) (cells kept : Cells) (f : Fragments) (n : Net) : Type 0 where
  pub layer : IsLayerOf o cells kept f n
  pub few_kept : length layer.fragments.keep ≤ most_of Counted.Tiles
  pub few_fragments : length f.rects ≤ most_of Counted.Fragments
  pub few_edges : length n.graph.edges ≤ most_of Counted.Edges

-- the same, cut from the tiles that share these cells out: each of them lies in exactly one tile, and no other cell in any
pub record IsCutLayer (o : PlainOptions) (cells kept : Cells) (f : Fragments)
    (n : Net) : Type 0 where
  pub is : IsLayer o cells kept f n
  pub shared : (tiles : List Corners) → AreTiles cells tiles → SharesOut cells tiles
  pub cut : CameFromCut (2 * o.space) f

-- the layer of some cells
pub record IsSomeLayer (o : PlainOptions) (f : Fragments) (n : Net) : Type 0 where
  pub cells : Cells
  pub kept : Cells
  pub is : IsLayer o cells kept f n

-- the layer of the cells that the text draws
abbrev pub IsLayerOfText : PlainOptions → List ℕ → Fragments → Net → Type 0
IsLayerOfText o text f n = OnLayer o text (λ cells kept. IsCutLayer o cells kept f n)
