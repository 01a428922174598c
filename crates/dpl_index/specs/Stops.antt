-- An index of items: stops, each with bounds that hold its item and those of the stops right behind it.
use Rattle.std.specs.Prelude.{◌≡◌, ℕ, ◌<◌, ◌≤◌, ◌+◌, List, All, Contains, length, slice_index_or}
use Rattle.dpl_index.specs.declared.bounds.Bounds.{Bounds}
use Rattle.dpl_index.specs.declared.stops.Stop.{Stop}
use Rattle.dpl_index.specs.Holds.{Holds}

-- the second numbers are those below n, in any order
pub record NamesAll (n : ℕ) (places : List (ℕ × ℕ)) : Type 0 where
  pub long : length places ≡ n
  pub each : All (λ p. p.1 < n) places
  pub all : (i : ℕ) → i < n → (key : ℕ) × Contains places (key, i)

-- the bounds of a stop hold the items of the stop itself and of as many behind it as it says
pub record IsIndex (items : List Bounds) (stops : List Stop) : Type 0 where
  pub inside : (k : ℕ) (d : Stop) → k < length stops →
      (slice_index_or stops k d).number < length items
  pub all : (i : ℕ) → i < length items → (k : ℕ) × (k < length stops) ×
      ((d : Stop) → (slice_index_or stops k d).number ≡ i)
  pub short : (k : ℕ) (d : Stop) → k < length stops →
      k + (slice_index_or stops k d).rest < length stops
  pub covers : (k m : ℕ) (d : Stop) (c : Bounds) → k < length stops → k ≤ m →
      m ≤ k + (slice_index_or stops k d).rest →
      Holds (slice_index_or stops k d).bounds
      (slice_index_or items (slice_index_or stops m d).number c)
