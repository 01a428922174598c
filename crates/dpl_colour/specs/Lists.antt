-- The nodes of each name in a list, of which each leads to the next. No public clause speaks of this.
use Rattle.std.specs.Prelude.{◌≡◌, ℕ, ◌+◌, ◌<◌, List, length, slice_index}

-- the node that has the name itself comes first
abbrev pub IsFirst : List ℕ → (ℕ → ℕ) → ℕ → Type 0
IsFirst names places f = (f < length names) × (slice_index names f ≡ f) × (places f ≡ 0)

-- a node has the name of another one, and the place behind it
abbrev pub IsBehind : List ℕ → (ℕ → ℕ) → ℕ → ℕ → Type 0
IsBehind names places v w = (slice_index names w ≡ slice_index names v) × (places w ≡ places v + 1)

-- a node has the last place of its name
abbrev pub IsLast : List ℕ → (ℕ → ℕ) → (ℕ → ℕ) → ℕ → ℕ → Type 0
IsLast names counts places f l =
    (l < length names) × (slice_index names l ≡ f) × (places l + 1 ≡ counts f)

-- the nodes of a name have its places, one each, and all but the last lead to the node behind them
pub record ArePlaced (names next : List ℕ) (counts places : ℕ → ℕ) : Type 0 where
  pub sizes : length next ≡ length names
  pub first : (v : ℕ) → v < length names → IsFirst names places (slice_index names v)
  pub inside : (v : ℕ) → v < length names → places v < counts (slice_index names v)
  pub below : (v : ℕ) → v < length names → slice_index next v < length names
  pub behind : (v : ℕ) → v < length names → places v + 1 < counts (slice_index names v) →
      IsBehind names places v (slice_index next v)
  pub once : (v w : ℕ) → v < length names → w < length names →
      slice_index names v ≡ slice_index names w → places v ≡ places w → v ≡ w

pub record AreLinked (names next : List ℕ) : Type 0 where
  pub counts : ℕ → ℕ
  pub places : ℕ → ℕ
  pub placed : ArePlaced names next counts places

-- each name has its last node besides, and a length that no proof reads
pub record AreListed (names next last lengths : List ℕ) : Type 0 where
  pub counts : ℕ → ℕ
  pub places : ℕ → ℕ
  pub placed : ArePlaced names next counts places
  pub lasts : length last ≡ length names
  pub sizes : length lengths ≡ length names
  pub ends : (v : ℕ) → v < length names →
      IsLast names counts places (slice_index names v) (slice_index last (slice_index names v))
