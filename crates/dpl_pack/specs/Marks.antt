-- Marks at the places of a list.
use Rattle.std.specs.Prelude.{◌≡◌, ℕ, ◌<◌, ◌&&◌, Bool, true, false, not, List, length, slice_index_or, All}
use Rattle.dpl_laminar.specs.Families.{has}

-- nothing is marked
abbrev pub AreClear : List Bool → Type 0
AreClear marks = (x : ℕ) → slice_index_or marks x false ≡ false

-- the marks of these places are gone, and the others are as before
abbrev pub AreCleared : List ℕ → List Bool → List Bool → Type 0
AreCleared places old new =
    (x : ℕ) → slice_index_or new x false ≡ (slice_index_or old x false && not (has places x))

-- all marks are at the places of a list
pub record AreMarksNoted (places : List ℕ) (marks : List Bool) : Type 0 where
  pub each : (x : ℕ) → slice_index_or marks x false ≡ true → has places x ≡ true
  pub below : All (λ x. x < length marks) places
