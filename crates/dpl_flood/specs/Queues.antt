-- A key for each place, and the least of them: a tournament tree, in which each number is the lesser of the two below it
-- (Knuth 1973, "Sorting and searching", tree selection).
use Rattle.std.specs.Prelude.{◌≡◌, ◌≢◌, ℕ, ◌+◌, ◌-◌, ◌*◌, ◌^◌, ◌<◌, ◌≤◌, min, List, length, slice_index, All, Contains, ◌⊎◌, drop, slice_set}

-- the key of what never comes
abbrev pub never : ℕ
never = 2 ^ 64 - 1

-- it is one of the keys, and none is less
pub record IsFirst (keys : List ℕ) (key : ℕ) : Type 0 where
  pub one : Contains keys key
  pub least : All (λ x. key ≤ x) keys

-- ---- how the keys are kept; no public clause speaks of what follows

-- Numbers below count stand over two others each, and are the lesser of both. Place i stands at count + i.
abbrev pub IsLeast : ℕ → (ℕ → ℕ) → Type 0
IsLeast count x = (j : ℕ) → 0 < j → j < count → x j ≡ min (x (2 * j)) (x (2 * j + 1))

-- the same but for one number
abbrev pub IsLeastBut : ℕ → (ℕ → ℕ) → ℕ → Type 0
IsLeastBut count x h = (j : ℕ) → 0 < j → j < count → j ≢ h → x j ≡ min (x (2 * j)) (x (2 * j + 1))

-- one number is another one
pub record IsSet (x y : ℕ → ℕ) (h : ℕ) : Type 0 where
  pub others : (j : ℕ) → j ≢ h → y j ≡ x j

pub record IsHeap (count : ℕ) (xs : List ℕ) : Type 0 where
  pub sizes : length xs ≡ 2 * count
  pub most : (j : ℕ) → slice_index xs j ≤ never
  pub least : IsLeast count (slice_index xs)

-- the key of one place was written, and all is well but at one number above it
pub record IsClimbing (count place key : ℕ) (old xs : List ℕ) (here : ℕ) : Type 0 where
  pub sizes : length xs ≡ 2 * count
  pub most : (j : ℕ) → slice_index xs j ≤ never
  pub some : 0 < here
  pub inside : here < 2 * count
  pub least : (h : ℕ) → (here ≡ 2 * h) ⊎ (here ≡ 2 * h + 1) → IsLeastBut count (slice_index xs) h
  pub keys : drop count xs ≡ slice_set (drop count old) place key
