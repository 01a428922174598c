-- The cycles of a permutation as lists.
use Rattle.std.specs.Prelude.{◌≡◌, ◌≢◌, ℕ, ◌+◌, ◌-◌, ◌<◌, List, length, slice_index, AllPairs}

-- the numbers of one cycle of f, each once and in the order of the cycle, from one of them on
pub record IsCycleFrom (f : ℕ → ℕ) (start : ℕ) (cycle : List ℕ) : Type 0 where
  pub some : 0 < length cycle
  pub first : slice_index cycle 0 ≡ start
  pub next : (i : ℕ) → i + 1 < length cycle → slice_index cycle (i + 1) ≡ f (slice_index cycle i)
  pub last : f (slice_index cycle (length cycle - 1)) ≡ start
  pub once : AllPairs (λ c d. c ≢ d) cycle
