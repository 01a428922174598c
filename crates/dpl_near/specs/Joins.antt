-- Pairs of rectangles that share an edge of positive length.
use Rattle.std.specs.Prelude.{◌≡◌, ℕ, ◌<◌, ◌⊎◌, Bool, min, max}
use Rattle.std.specs.Prelude.{List, All, AllPairs, Contains, length, slice_index_or}
use Rattle.dpl_cell.specs.Places.{Corners}
use Rattle.dpl_cell.specs.Cells.{IsIn}
use Rattle.dpl_cell.specs.Edges.{SharesEdge}
use Rattle.dpl_near.specs.Borders.{first_border, last_border, AreAlong}

-- two numbers, the smaller first, whose rectangles share an edge
pub record IsJoin (rects : List Corners) (i j : ℕ) : Type 0 where
  pub rising : i < j
  pub within : j < length rects
  pub edge : (d : Corners) →
      SharesEdge (IsIn (slice_index_or rects i d)) (IsIn (slice_index_or rects j d))

-- the pair (i, j) stands before (k, l)
abbrev pub IsFirst : ℕ × ℕ → ℕ × ℕ → Type 0
IsFirst p q = (p.0 < q.0) ⊎ ((p.0 ≡ q.0) × (p.1 < q.1))

-- all pairs with a property, each once, in order
pub record ArePairs (has : ℕ → ℕ → Type 0) (pairs : List (ℕ × ℕ)) : Type 0 where
  pub each : All (λ p. has p.0 p.1) pairs
  pub all : (i j : ℕ) → has i j → Contains pairs (i, j)
  pub ordered : AllPairs IsFirst pairs

-- all such pairs, each once, in order
abbrev pub AreJoins : List Corners → List (ℕ × ℕ) → Type 0
AreJoins rects = ArePairs (IsJoin rects)

-- the second rectangle stands at the right of the first, or above it, with a stretch of a border in
-- common
pub record Follows (upright : Bool) (rects : List Corners) (i j : ℕ) : Type 0 where
  pub within : j < length rects
  pub along : (d : Corners) → AreAlong (last_border upright (slice_index_or rects i d) i)
      (first_border upright (slice_index_or rects j d) j)

-- pairs that share an edge, among them all of the rectangles below n and those that follow them
pub record HasJoinsOf (rects : List Corners) (n : ℕ) (joins : List (ℕ × ℕ)) : Type 0 where
  pub each : (p : ℕ × ℕ) → Contains joins p → IsJoin rects p.0 p.1
  pub all : (upright : Bool) (i j : ℕ) → i < n → Follows upright rects i j →
      Contains joins (min i j, max i j)
