-- Places on a circle: r says where each number stands, below m, and a turn goes from one counterclockwise to the next.
use Rattle.std.specs.Prelude.{◌≡◌, ℕ, ◌+◌, ◌-◌, nat_lt, true, false, List, [], ◌∷◌, ◌⊎◌}

-- how far it is to turn from d to c, a whole turn from d to itself
abbrev pub turn : ℕ → (ℕ → ℕ) → ℕ → ℕ → ℕ
turn m r d c = elim (nat_lt (r d) (r c)) [ true ↦ r c - r d | false ↦ m + r c - r d ]

-- the number that is met first when turning from d, or d itself
abbrev pub nearer : ℕ → (ℕ → ℕ) → ℕ → ℕ → ℕ → ℕ
nearer m r d c e = elim (nat_lt (turn m r d c) (turn m r d e)) [ true ↦ c | false ↦ e ]

abbrev pub next : ℕ → (ℕ → ℕ) → ℕ → List ℕ → ℕ
next m r d [] = d
next m r d (c ∷ cs) = nearer m r d c (next m r d cs)

-- the number from which d is met first
abbrev pub later : ℕ → (ℕ → ℕ) → ℕ → ℕ → ℕ → ℕ
later m r d c e = elim (nat_lt (turn m r c d) (turn m r e d)) [ true ↦ c | false ↦ e ]

abbrev pub before : ℕ → (ℕ → ℕ) → ℕ → List ℕ → ℕ
before m r d [] = d
before m r d (c ∷ cs) = later m r d c (before m r d cs)

abbrev pub Mem : ℕ → List ℕ → Type 0
Mem x [] = ⊥
Mem x (y ∷ ys) = (x ≡ y) ⊎ Mem x ys
