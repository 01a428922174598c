-- What a miss of two ascending lists says: up to there they are the same, and there they differ.
use Rattle.std.specs.Prelude.{◌≡◌, ◌<◌, ◌⊎◌, ℕ, pos, List, [], ◌∷◌, ◌++◌, Option, Some}
use Rattle.dpl_good.specs.declared.refusals.Miss.{Miss}
use Rattle.dpl_good.specs.Misses.{miss}

-- How two lists differ at their front. A line before the others is listed and not wanted, or wanted and not listed; or two lines of one edge differ.
abbrev pub DifferAt : {X : Type 0} → (X → ℕ) → (X → X → Option Miss) → List X → List X → Miss →
    Type 0
DifferAt edge line_miss [] [] m = ⊥
DifferAt edge line_miss [] (w ∷ ws) m = m ≡ miss (edge w) (pos 0) (pos 1)
DifferAt edge line_miss (x ∷ xs) [] m = m ≡ miss (edge x) (pos 1) (pos 0)
DifferAt edge line_miss (x ∷ xs) (w ∷ ws) m =
    ((edge x < edge w) × (m ≡ miss (edge x) (pos 1) (pos 0))) ⊎
    (((edge w < edge x) × (m ≡ miss (edge w) (pos 0) (pos 1))) ⊎
    ((edge x ≡ edge w) × (line_miss x w ≡ Some m)))

pub record FirstDifference {X : Type 0} (edge : X → ℕ) (line_miss : X → X → Option Miss)
    (listed wanted : List X) (m : Miss) : Type 0 where
  pub same : List X
  pub listed_behind : List X
  pub wanted_behind : List X
  pub listed_split : listed ≡ same ++ listed_behind
  pub wanted_split : wanted ≡ same ++ wanted_behind
  pub differ : DifferAt edge line_miss listed_behind wanted_behind m
