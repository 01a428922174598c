-- Numbers that are joined by a chain of pairs: one component of the graph that has the pairs as its edges (Diestel, Graph Theory, 1.4).
use Rattle.std.specs.Prelude.{◌≡◌, ℕ, ◌⊎◌, List, [], ◌∷◌, Contains}

-- a way from number to number over pairs, in either direction
abbrev pub IsChain : List (ℕ × ℕ) → ℕ → List ℕ → ℕ → Type 0
IsChain pairs i [] k = i ≡ k
IsChain pairs i (j ∷ js) k = (Contains pairs (i, j) ⊎ Contains pairs (j, i)) × IsChain pairs j js k

-- the two numbers are joined by a chain of pairs
pub record AreLinked (pairs : List (ℕ × ℕ)) (i k : ℕ) : Type 0 where
  pub chain : List ℕ
  pub is : IsChain pairs i chain k
