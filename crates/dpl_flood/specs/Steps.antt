-- The ways at each face, with their numbers.
use Rattle.std.specs.Prelude.{Bool, ◌≡◌, ◌≢◌, ℕ, zero, suc, ◌<◌, ◌==◌, ◌&&◌, ◌||◌, not, List, [], ◌∷◌, ◌++◌, length, map, if◌then◌else◌, All}
use Rattle.std.specs.List.{range_with_len}
use Rattle.dpl_list.specs.Rows.{of_key}
use Rattle.dpl_dual.specs.declared.crosses.Cross.{Cross}
use Rattle.dpl_dual.specs.Chains.{IsAt, beyond}
use Rattle.dpl_dual.specs.Duals.{way_at}
use Rattle.dpl_flood.specs.declared.ways.Step.{Step}

-- a way is at a face and leads to another one
abbrev pub leaves : Cross → ℕ → Bool
leaves x f = (x.f == f || x.g == f) && not (x.f == x.g)

-- what a way is from a face
abbrev pub step_over : List Cross → ℕ → ℕ → Step
step_over ways f w = record { to = beyond (way_at ways w) f; way = w }

-- the steps from a face over the ways below a number, in their order
abbrev pub steps_below : List Cross → ℕ → ℕ → List Step
steps_below ways f zero = []
steps_below ways f (suc w) =
    steps_below ways f w ++ (if leaves (way_at ways w) f then step_over ways f w ∷ [] else [])

-- those over all ways
abbrev pub steps_of : List Cross → ℕ → List Step
steps_of ways f = steps_below ways f (length ways)

-- for each face its steps
abbrev pub step_rows : List Cross → ℕ → List (List Step)
step_rows ways faces = map (steps_of ways) (range_with_len 0 faces)

-- a step leads over a way at a face to another face
pub record IsStepFrom (ways : List Cross) (f : ℕ) (y : Step) : Type 0 where
  pub inside : y.way < length ways
  pub at : IsAt (way_at ways y.way) f
  pub to : y.to ≡ beyond (way_at ways y.way) f
  pub other : y.to ≢ f

-- ---- while steps are listed; no public clause speaks of what follows

-- the steps over the ways below a number are listed at their faces
pub record AreListed (faces : ℕ) (ways : List Cross) (w : ℕ) (keys : List ℕ) (steps : List Step) : Type 0 where
  pub sizes : length keys ≡ length steps
  pub below : All (λ k. k < faces) keys
  pub each : (f : ℕ) → of_key f keys steps ≡ steps_below ways f w
