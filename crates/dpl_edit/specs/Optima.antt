-- The optimum of a content, and what stays of it.
use Rattle.std.specs.Prelude.{◌≡◌, ◌<◌, ◌≤◌, ◌^◌, ℕ, Bool, List, length, All}
use Rattle.dpl_limits.specs.Limits.{most_of}
use Rattle.dpl_limits.specs.declared.counted.Counted.TheVariants as Counted
use Rattle.dpl_cell.specs.declared.layout.Primitive.{Primitive}
use Rattle.dpl_cell.specs.declared.rect.Rect.{Rect}
use Rattle.dpl_sign.specs.declared.nets.Net.{Net}
use Rattle.dpl_sign.specs.declared.walks.Cycle.{Cycle}
use Rattle.dpl_sign.specs.Colourings.{colour_of}
use Rattle.dpl_cuts.specs.declared.types.Fragments.{Fragments}
use Rattle.dpl_options.specs.Options.{PlainOptions}
use Rattle.dpl_solve.specs.Solved.{IsSolution}
use Rattle.dpl_layer.specs.Drawings.{Cells}
use Rattle.dpl_layer.specs.Layers.{IsCutLayer}
use Rattle.dpl_stay.specs.Order.{AreRectsInOrder}
use Rattle.dpl_stay.specs.Same.{corners_at, AreSame}
use Rattle.dpl_sum.specs.declared.combining.SolvedPart.{SolvedPart}
use Rattle.dpl_sum.specs.Laying.{solved_part}
use Rattle.dpl_sum.specs.Solved as sum
use Rattle.dpl_edit.specs.declared.solved.Solved.{Solved}
use Rattle.dpl_edit.specs.Contents.{cells_in, prim_count}

-- the fragments and the net of a content, with an optimum
pub record Optimum : Type 0 where
  pub fragments : Fragments
  pub net : Net
  pub colours : List Bool
  pub cost : ℕ
  pub aside : List ℕ
  pub excess : ℕ
  pub cycles : List Cycle
  pub bound : ℕ

abbrev pub solved_of : Solved → Optimum
solved_of s = record {
  fragments = s.layer.fragments;
  net = s.layer.net;
  colours = s.solution.colours.items;
  cost = s.solution.cost;
  aside = s.solution.aside;
  excess = s.solution.excess;
  cycles = s.solution.cycles;
  bound = s.solution.bound;
}

-- the layer of these cells beside those that are kept whole, within the limits, and an optimum of its net
pub record IsSolved (o : PlainOptions) (cells kept : Cells) (s : Optimum) : Type 0 where
  pub layer : IsCutLayer o cells kept s.fragments s.net
  pub optimum : IsSolution s.net s.colours s.cost s.aside s.excess s.cycles s.bound

-- an optimum of the layer of some cells
pub record IsSomeOptimum (o : PlainOptions) (s : Optimum) : Type 0 where
  pub cells : Cells
  pub kept : Cells
  pub is : IsSolved o cells kept s

-- a content that passes no limit, with its optimum
pub record IsSolvedContent (o : PlainOptions) (prims keep : List Primitive) (s : Optimum) : Type 0 where
  pub few : prim_count prims ≤ most_of Counted.Primitives
  pub solved : IsSolved o (cells_in prims) (cells_in keep) s

-- The fragments of each component of the new net that is the same as a component of the net before have the masks that
-- they had.
abbrev pub KeepMasks : Optimum → Optimum → Type 0
KeepMasks before after = (v w : ℕ) → v < after.net.graph.nodes → w < before.net.graph.nodes →
    AreSame after.fragments.rects before.fragments.rects after.net before.net v w →
    corners_at after.fragments.rects v ≡ corners_at before.fragments.rects w →
    colour_of after.colours v ≡ colour_of before.colours w

-- components by themselves, with an optimum of each
abbrev pub AreSolved : List SolvedPart → Type 0
AreSolved parts = All (λ p. sum.IsSolved (solved_part p)) parts

-- optima of components that are known, and the rectangles of the net that they came from
pub record AreKnown (rects : List Rect) (known : List SolvedPart) : Type 0 where
  pub order : AreRectsInOrder rects
  pub few : length rects < 2 ^ 32
  pub solved : AreSolved known
