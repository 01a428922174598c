-- Classes of the numbers below n: each number has the name of its class, which is a number of that class.
use Rattle.std.specs.Prelude.{◌≡◌, ℕ, ◌<◌, ◌==◌, zero, suc, true, false}

-- each name is a number that names itself
pub record AreNames (n : ℕ) (names : ℕ → ℕ) : Type 0 where
  pub inside : (v : ℕ) → v < n → names v < n
  pub twice : (v : ℕ) → v < n → names (names v) ≡ names v

-- how many classes there are: the numbers that name themselves
abbrev pub name_count : (ℕ → ℕ) → ℕ → ℕ
name_count names zero = 0
name_count names (suc n) =
    elim (names n == n) [ true ↦ suc (name_count names n) | false ↦ name_count names n ]

-- the classes of a and b become one, with the name of a
abbrev pub join : (ℕ → ℕ) → ℕ → ℕ → ℕ → ℕ
join names a b v = elim (names v == names b) [ true ↦ names a | false ↦ names v ]
