-- Items of kinds, and those that are asked for.
use Rattle.std.specs.Prelude.{◌≡◌, ◌≢◌, ◌⊎◌, ℕ, ◌+◌, ◌<◌, ◌≤◌, List, [], ◌∷◌, ◌++◌, All, Contains, length, slice_index_or, Some}
use Rattle.dpl_index.specs.declared.bounds.Bounds.{Bounds}
use Rattle.dpl_index.specs.declared.kinded.Ask.{Ask}
use Rattle.dpl_index.specs.declared.stops.Stop.{Stop}
use Rattle.dpl_index.specs.Meetings.{Meets}

-- items by their bounds, and their kinds
pub record Kinded : Type 0 where
  pub items : List Bounds
  pub kinds : List ℕ

-- kinded items, and their numbers in the order in which they stand
pub record Standing : Type 0 where
  pub kinded : Kinded
  pub order : List ℕ

-- the numbers below n, each at some place
pub record IsOrder (n : ℕ) (order : List ℕ) : Type 0 where
  pub each : All (λ i. i < n) order
  pub all : (i : ℕ) → i < n → Contains order i

-- the kind of an item by its number, 0 where none is given
abbrev pub kind_of : List ℕ → ℕ → ℕ
kind_of kinds i = slice_index_or kinds i 0

-- where a stop has a kind, its own item and those of as many stops behind it as it says are of it
pub record HasKinds (kinds : List ℕ) (stops : List Stop) : Type 0 where
  pub one : (k m : ℕ) (d : Stop) (kind : ℕ) → k < length stops → k ≤ m →
      m ≤ k + (slice_index_or stops k d).rest → (slice_index_or stops k d).kind ≡ Some kind →
      kind_of kinds (slice_index_or stops m d).number ≡ kind

-- the number of an item whose bounds meet the wider ones, and the narrower ones too where it is of the kind
pub record IsAsked (x : Kinded) (ask : Ask) (i : ℕ) : Type 0 where
  pub within : i < length x.items
  pub far : (d : Bounds) → Meets (slice_index_or x.items i d) ask.far
  pub near : (kind_of x.kinds i ≢ ask.kind) ⊎
      ((d : Bounds) → Meets (slice_index_or x.items i d) ask.near)

-- numbers of items, among them all that are asked for
pub record HasAsked (x : Kinded) (ask : Ask) (found : List ℕ) : Type 0 where
  pub each : All (λ i. i < length x.items) found
  pub all : (i : ℕ) → IsAsked x ask i → Contains found i

-- the same of those that stand behind a place
pub record HasAskedBehind (x : Standing) (ask : Ask) (place : ℕ) (found : List ℕ) : Type 0 where
  pub each : All (λ i. i < length x.kinded.items) found
  pub all : (m : ℕ) → place < m → m < length x.order →
      IsAsked x.kinded ask (slice_index_or x.order m 0) →
      Contains found (slice_index_or x.order m 0)

-- the same of those at the stops from one on
pub record HasAskedFrom (x : Kinded) (ask : Ask) (stops : List Stop) (from : ℕ) (found : List ℕ)
    : Type 0 where
  pub each : All (λ i. i < length x.items) found
  pub all : (m : ℕ) (d : Stop) → from ≤ m → m < length stops →
      IsAsked x ask (slice_index_or stops m d).number →
      Contains found (slice_index_or stops m d).number

-- the second list is the first, with i behind it or without where i is not asked for
abbrev pub AddsAsked : Kinded → Ask → ℕ → List ℕ → List ℕ → Type 0
AddsAsked x ask i found new = (new ≡ found ++ i ∷ []) ⊎ ((¬ IsAsked x ask i) × (new ≡ found))
