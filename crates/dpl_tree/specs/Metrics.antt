-- Distances between members.
use Rattle.std.specs.Prelude.{◌≡◌, ℕ, ◌<◌}

-- a distance is the same from both of its members
abbrev pub AreSymmetric : ℕ → (ℕ → ℕ → ℕ) → Type 0
AreSymmetric n dist = (s t : ℕ) → s < n → t < n → dist s t ≡ dist t s
