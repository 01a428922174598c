-- Pairs of rectangles that stand around each other, and the rows of what stands around each.
use Rattle.std.specs.Prelude.{◌≡◌, ◌≢◌, ◌⊎◌, [], ◌∷◌, ◌++◌, ℕ, ◌<◌, List, All, Contains, length, slice_index_or}
use Rattle.dpl_list.specs.Rows.{AreKeyed, of_key}
use Rattle.dpl_near.specs.Around.{Shaped, within, AreAround}
use Rattle.dpl_near.specs.Near.{Search, IsNear}

-- a row for each rectangle, of what stands around it
pub record AreRows (s : Shaped) (rows : List (List ℕ)) : Type 0 where
  pub long : length rows ≡ length s.rects
  pub each : (i : ℕ) → i < length s.rects → AreAround s i (slice_index_or rows i [])

-- ---- while pairs are found; no public clause speaks of what follows

-- what must be among the numbers of those around a rectangle
pub record IsWanted (s : Shaped) (i j : ℕ) : Type 0 where
  pub near : IsNear (within s s.reach) i j
  pub why : (slice_index_or s.shape j 0 ≢ slice_index_or s.shape i 0) ⊎ IsNear (within s 1) i j

-- numbers of rectangles with one near each of them beside it, in the second list
pub record ArePairs (s : Search) (keys others : List ℕ) : Type 0 where
  pub keyed : AreKeyed (length s.rects) keys others
  pub near : (i : ℕ) → All (IsNear s i) (of_key i keys others)

-- each of two rectangles stands beside the other
pub record ArePaired (keys others : List ℕ) (i j : ℕ) : Type 0 where
  pub first : Contains (of_key i keys others) j
  pub second : Contains (of_key j keys others) i

-- the pairs with those two more, if they are near each other
abbrev pub AddsPair : Search → ℕ → ℕ → List ℕ → List ℕ → List ℕ → List ℕ → Type 0
AddsPair s i j keys others keys' others' =
    (IsNear s i j × (keys' ≡ keys ++ i ∷ [] ++ j ∷ []) × (others' ≡ others ++ j ∷ [] ++ i ∷ [])) ⊎
    ((¬ IsNear s i j) × (keys' ≡ keys) × (others' ≡ others))

-- the pairs with one more for each of some rectangles that is near
pub record AddsPairs (s : Search) (i : ℕ) (found keys others keys' others' : List ℕ) : Type 0 where
  pub pairs : ArePairs s keys' others'
  pub kept : (x y : ℕ) → ArePaired keys others x y → ArePaired keys' others' x y
  pub all : (j : ℕ) → Contains found j → IsNear s i j → ArePaired keys' others' i j

-- those at the first places have what they want of those behind them beside them
pub record ArePairedBefore (s : Shaped) (order : List ℕ) (place : ℕ) (keys others : List ℕ)
    : Type 0 where
  pub pairs : ArePairs (within s s.reach) keys others
  pub all : (k m : ℕ) → k < place → k < m → m < length order →
      IsWanted s (slice_index_or order k 0) (slice_index_or order m 0) →
      ArePaired keys others (slice_index_or order k 0) (slice_index_or order m 0)
