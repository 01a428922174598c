-- A permutation of the numbers below n as the list of what each leads to.
use Rattle.std.specs.Prelude.{◌≡◌, ℕ, ◌<◌, ◌^◌, List, [], length, slice_index, Option, Some, None}
use Rattle.dpl_cycle.specs.Cycles.{cycles, least, Permutes}

-- the second list leads back where the first leads
abbrev pub AreInverse : List ℕ → List ℕ → Type 0
AreInverse nexts prevs = Permutes (length nexts) (slice_index nexts) (slice_index prevs)

-- the list is a permutation of its places
abbrev pub IsRing : List ℕ → Type 0
IsRing nexts = (prevs : List ℕ) × (length prevs ≡ length nexts) × AreInverse nexts prevs

abbrev pub cycle_count : List ℕ → ℕ
cycle_count nexts = cycles (slice_index nexts) (length nexts)

-- the least number of the cycle of i
abbrev pub least_of : List ℕ → ℕ → ℕ
least_of nexts i = least (slice_index nexts) (length nexts) i

-- what a ring's fields keep
pub record IsKept (nexts prevs : List ℕ) : Type 0 where
  pub lengths : length prevs ≡ length nexts
  pub small : length nexts < 2 ^ 31
  pub inverse : AreInverse nexts prevs

-- where each number leads, and what leads to it; with no number there are no pairs
abbrev pub nexts_in : Option (List ℕ × List ℕ) → List ℕ
nexts_in None = []
nexts_in (Some p) = p.0

abbrev pub prevs_in : Option (List ℕ × List ℕ) → List ℕ
prevs_in None = []
prevs_in (Some p) = p.1
