-- What the edges of a net weigh, in the words of cells.
use Rattle.std.specs.Prelude.{◌≡◌, ◌⊎◌, ℤ, List}
use Rattle.dpl_cell.specs.Places.{Corners}
use Rattle.dpl_cell.specs.Cells.{IsIn}
use Rattle.dpl_cell.specs.Gaps.{CellPair}
use Rattle.dpl_sign.specs.declared.edges.Kind.TheVariants.{Bond, Stitch, Clash}
use Rattle.dpl_cuts.specs.Positions.{rect_at}
use Rattle.dpl_options.specs.Options.{PlainWeights}
use Rattle.dpl_links.specs.Nets.{Tie}

-- a cell of one set and a cell of the other lie in one column or in one row
pub record FaceEachOther (one other : ℤ → ℤ → Type 0) : Type 0 where
  pub x : ℤ
  pub y : ℤ
  pub x' : ℤ
  pub y' : ℤ
  pub cells : CellPair one other x y x' y'
  pub line : (x ≡ x') ⊎ (y ≡ y')

-- The two fragments at the ends of an edge face each other; where they do not, they meet at corners.
abbrev pub AreFacing : List Corners → Tie → Type 0
AreFacing rects t = FaceEachOther (IsIn (rect_at rects t.a)) (IsIn (rect_at rects t.b))

-- A clash of two fragments that face each other has the conflict weight, and one of two that meet at corners the
-- corner weight.
pub record HasWeight (weights : PlainWeights) (rects : List Corners) (t : Tie) : Type 0 where
  pub bond : t.kind ≡ Bond → t.weight ≡ 0
  pub stitch : t.kind ≡ Stitch → t.weight ≡ weights.stitch
  pub side : t.kind ≡ Clash → AreFacing rects t → t.weight ≡ weights.conflict
  pub corner : t.kind ≡ Clash → ¬ AreFacing rects t → t.weight ≡ weights.corner
