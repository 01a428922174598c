-- Faces that are noted in a list, as moats are laid by it.
use Rattle.std.specs.Prelude.{◌≡◌, ◌≢◌, ℕ, ◌<◌, true, List, All, Contains, map, slice_index}
use Rattle.dpl_laminar.specs.Families.{has}
use Rattle.dpl_pack.specs.declared.held.Held.{Held}
use Rattle.dpl_pack.specs.Points.{Point, water, on}

-- a face is one of the first of these
abbrev pub IsOneOf : List ℕ → ℕ → ℕ → Type 0
IsOneOf faces count g = (j : ℕ) × ((j < count) × (slice_index faces j ≡ g))

-- a face stands on one of the first stacks
abbrev pub IsStacked : (ℕ → List ℕ) → ℕ → ℕ → Type 0
IsStacked stack count g = (k : ℕ) × ((k < count) × (has (stack k) g ≡ true))

-- each of these faces that is held is noted with its point, besides what was noted before
pub record AreNoted (point : ℕ → Point) (faces : ℕ → Type 0) (old new : List Held) : Type 0 where
  pub each : All (λ h. point h.face ≡ on h.member h.far) old → All (λ h. point h.face ≡ on h.member h.far) new
  pub kept : (g : ℕ) → Contains (map (λ h. h.face) old) g → Contains (map (λ h. h.face) new) g
  pub all : (g : ℕ) → faces g → point g ≢ water → Contains (map (λ h. h.face) new) g
