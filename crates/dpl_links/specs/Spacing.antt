-- The spacing between shapes, cell by cell, and the clashes of a net (conflict graph: Kahng, Park, Xu and Yao 2008).
use Rattle.std.specs.Prelude.{◌≡◌, ◌⊎◌, ◌<◌, ◌*◌, ℕ, ℤ, Bool, IsTrue, List, length, All, Any, AllPairs, slice_index_or}
use Rattle.dpl_cell.specs.Places.{Corners}
use Rattle.dpl_cell.specs.Cells.{IsIn}
use Rattle.dpl_cell.specs.Gaps.{cell_gap2}
use Rattle.dpl_cell.specs.Shapes.{AreOneShape}
use Rattle.dpl_sign.specs.declared.edges.Kind.TheVariants.{Clash}
use Rattle.dpl_sign.specs.declared.edges.Edge.{Edge}
use Rattle.dpl_cuts.specs.Positions.{layer_of, rect_at}
use Rattle.dpl_links.specs.Links.{piece_of}

-- two cells of different shapes that are closer than the spacing
pub record AreTooClose (cells : ℤ → ℤ → Bool) (space : ℕ) (x y x' y' : ℤ) : Type 0 where
  pub first : IsTrue (cells x y)
  pub second : IsTrue (cells x' y')
  pub other : ¬ AreOneShape cells x y x' y'
  pub near : cell_gap2 x y x' y' < space * space

-- the edge is a clash of the pieces of the fragments i and j
pub record IsClashOf (pieces : List ℕ) (i j : ℕ) (e : Edge) : Type 0 where
  pub kind : e.kind ≡ Clash
  pub ends : ((piece_of pieces e.a ≡ piece_of pieces i) × (piece_of pieces e.b ≡ piece_of pieces j))
      ⊎ ((piece_of pieces e.a ≡ piece_of pieces j) × (piece_of pieces e.b ≡ piece_of pieces i))

-- the fragments a and b hold two cells that are too close
pub record HoldTooClose (tiles rects : List Corners) (space a b : ℕ) : Type 0 where
  pub x : ℤ
  pub y : ℤ
  pub x' : ℤ
  pub y' : ℤ
  pub first : IsIn (rect_at rects a) x y
  pub second : IsIn (rect_at rects b) x' y'
  pub close : AreTooClose (layer_of tiles) space x y x' y'

-- Clashes stand for the cells that are too close: the two fragments of each clash hold two such cells, and each two
-- such cells lie in fragments whose pieces a clash joins; no two clashes join the same two pieces.
pub record AreAllClashes (tiles rects : List Corners) (space : ℕ) (pieces : List ℕ)
    (edges : List Edge) : Type 0 where
  pub each : All (λ e. e.kind ≡ Clash → HoldTooClose tiles rects space e.a e.b) edges
  pub all : (i j : ℕ) (x y x' y' : ℤ) → i < length rects → j < length rects
      → IsIn (rect_at rects i) x y → IsIn (rect_at rects j) x' y'
      → AreTooClose (layer_of tiles) space x y x' y' → Any (IsClashOf pieces i j) edges
  pub one : AllPairs (λ d e. e.kind ≡ Clash → ¬ IsClashOf pieces e.a e.b d) edges

-- all fragments of a piece are of one shape
abbrev pub AreWithinShapes : List ℕ → List ℕ → Type 0
AreWithinShapes pieces shape = (i j : ℕ) → i < length pieces → j < length pieces →
    piece_of pieces i ≡ piece_of pieces j
    → slice_index_or shape i 0 ≡ slice_index_or shape j 0
