-- Sums over numbered sets of members: how many members a set has, and the load of two members.
use Rattle.std.specs.Prelude.{ℕ, ◌+◌, zero, suc, Bool, true, false, if◌then◌else◌}

-- the sum of f over the numbers below n
abbrev pub sum_below : ℕ → (ℕ → ℕ) → ℕ
sum_below zero f = 0
sum_below (suc n) f = f n + sum_below n f

-- exactly one of two is true
abbrev pub differ : Bool → Bool → Bool
differ true true = false
differ true false = true
differ false true = true
differ false false = false

-- how many of the members below n a set holds
abbrev pub size_of : ℕ → (ℕ → Bool) → ℕ
size_of n set = sum_below n (λ m. if set m then 1 else 0)

-- the load of s and t: the sum of the values of the sets below k that hold exactly one of them
abbrev pub load_in : ℕ → (ℕ → ℕ) → (ℕ → ℕ → Bool) → ℕ → ℕ → ℕ
load_in k value holds s t = sum_below k (λ i. if differ (holds i s) (holds i t) then value i else 0)
