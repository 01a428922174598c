-- The items whose bounds meet others.
use Rattle.std.specs.Prelude.{◌≡◌, ◌⊎◌, ℕ, ◌<◌, ◌≤ℤ◌, List, [], ◌∷◌, ◌++◌, All, AllPairs, Contains, length, slice_index_or}
use Rattle.dpl_index.specs.declared.bounds.Bounds.{Bounds}

-- the bounds have a column and a row in common, where each has one
pub record Meets (a b : Bounds) : Type 0 where
  pub left : a.left ≤ℤ b.right
  pub right : b.left ≤ℤ a.right
  pub low : a.low ≤ℤ b.high
  pub high : b.low ≤ℤ a.high

-- the number of an item whose bounds meet the window
pub record IsMeeting (items : List Bounds) (window : Bounds) (i : ℕ) : Type 0 where
  pub within : i < length items
  pub meets : (d : Bounds) → Meets (slice_index_or items i d) window

-- the numbers of all such items, ascending
pub record AreMeeting (items : List Bounds) (window : Bounds) (found : List ℕ) : Type 0 where
  pub each : All (IsMeeting items window) found
  pub all : (i : ℕ) → IsMeeting items window i → Contains found i
  pub ordered : AllPairs (λ i j. i < j) found

-- the same in any order, perhaps more than once
pub record HasMeeting (items : List Bounds) (window : Bounds) (found : List ℕ) : Type 0 where
  pub each : All (IsMeeting items window) found
  pub all : (i : ℕ) → IsMeeting items window i → Contains found i

-- the second list is the first, and i behind it where the bounds of i meet the window
abbrev pub AddsMeeting : List Bounds → Bounds → ℕ → List ℕ → List ℕ → Type 0
AddsMeeting items window i found new =
    (IsMeeting items window i × (new ≡ found ++ i ∷ [])) ⊎
    ((¬ IsMeeting items window i) × (new ≡ found))
