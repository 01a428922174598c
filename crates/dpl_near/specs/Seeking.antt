-- Places among rising numbers.
use Rattle.std.specs.Prelude.{ℕ, ◌<◌, ◌≤◌, ℤ, ◌<ℤ◌, ◌≤ℤ◌, List, AllPairs, length, slice_index_or}

-- each number is less than those behind it
abbrev pub AreRising : List ℤ → Type 0
AreRising numbers = AllPairs (λ y z. y <ℤ z) numbers

-- the numbers before the place are not greater than x, and those from it on are
pub record IsPlacePast (numbers : List ℤ) (x : ℤ) (place : ℕ) : Type 0 where
  pub within : place ≤ length numbers
  pub low : (k : ℕ) (d : ℤ) → k < place → slice_index_or numbers k d ≤ℤ x
  pub high : (k : ℕ) (d : ℤ) → place ≤ k → k < length numbers → x <ℤ slice_index_or numbers k d
