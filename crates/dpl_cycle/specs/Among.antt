-- The cycles that go through some of the numbers.
use Rattle.std.specs.Prelude.{ℕ, ◌==◌, zero, suc, Bool, true, false, List, [], ◌∷◌}
use Rattle.dpl_cycle.specs.Cycles.{without}

-- the numbers below n that pass a test, the greatest first
abbrev pub members : (ℕ → Bool) → ℕ → List ℕ
members p zero = []
members p (suc n) = elim (p n) [ true ↦ n ∷ members p n | false ↦ members p n ]

-- how many do not pass it
abbrev pub others_count : (ℕ → Bool) → ℕ → ℕ
others_count p zero = 0
others_count p (suc n) = elim (p n) [ true ↦ others_count p n | false ↦ suc (others_count p n) ]

-- The number of cycles that go through these, which are taken out one after another: one that leads
-- to itself is the last of its cycle.
abbrev pub cycles_among : (ℕ → ℕ) → List ℕ → ℕ
cycles_among f [] = 0
cycles_among f (d ∷ ds) =
    elim (f d == d) [
      | true ↦ suc (cycles_among (without d f) ds)
      | false ↦ cycles_among (without d f) ds
    ]
