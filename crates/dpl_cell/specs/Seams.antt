-- The line along which two rectangles share edges.
use Rattle.std.specs.Prelude.{◌≡◌, ℤ, pos, ◌+ℤ◌, ◌<ℤ◌, MatchBool}
use Rattle.dpl_cell.specs.declared.types.Seam.{Seam}
use Rattle.dpl_cell.specs.Places.{Corners}
use Rattle.dpl_cell.specs.Cells.{IsWithin, IsIn}
use Rattle.dpl_cell.specs.Gaps.{CellPair}
use Rattle.dpl_cell.specs.Edges.{AreNeighbours}

-- a cell of a and a cell of b with an edge in common
pub record Meet (a b : Corners) (x y x' y' : ℤ) : Type 0 where
  pub cells : CellPair (IsIn a) (IsIn b) x y x' y'
  pub neighbours : AreNeighbours x y x' y'

-- the two cells stand at the place k of the line, one on each side of it
abbrev pub AreAcross : Seam → ℤ → ℤ → ℤ → ℤ → ℤ → Type 0
AreAcross s k x y x' y' =
    MatchBool s.upright ((y ≡ k) × (y' ≡ k) × (x +ℤ x' +ℤ pos 1 ≡ s.at +ℤ s.at)) ((x ≡ k) ×
    (x' ≡ k) × (y +ℤ y' +ℤ pos 1 ≡ s.at +ℤ s.at))

-- the edges that the rectangles share are those of this line, and there is at least one
pub record IsSeam (a b : Corners) (s : Seam) : Type 0 where
  pub long : s.from <ℤ s.to
  pub each : (k : ℤ) → IsWithin s.from s.to k →
      (x : ℤ) × (y : ℤ) × (x' : ℤ) × (y' : ℤ) × Meet a b x y x' y' × AreAcross s k x y x' y'
  pub all : (x y x' y' : ℤ) → Meet a b x y x' y' →
      (k : ℤ) × IsWithin s.from s.to k × AreAcross s k x y x' y'
