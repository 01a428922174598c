-- Moats as they are laid: what is near each set once, and for each moat how deep it goes there.
use Rattle.std.specs.Prelude.{◌≡◌, ℕ, ◌<◌, nat_le, List, [], ◌∷◌, length, map, slice_index_or, if◌then◌else◌, All}
use Rattle.dpl_pack.specs.declared.moat.Moat.{Moat}
use Rattle.dpl_pack.specs.declared.laid.Near.{Near}
use Rattle.dpl_pack.specs.declared.laid.Level.{Level}

-- the faces whose depth is no more than a level, in their order
abbrev pub up_to : ℕ → List ℕ → List ℕ → List ℕ
up_to level [] depths = []
up_to level (f ∷ faces) [] = []
up_to level (f ∷ faces) (d ∷ depths) =
    if nat_le d level then f ∷ up_to level faces depths else up_to level faces depths

-- what is near a set, by its parts
abbrev pub near_with : List ℕ → List ℕ → Near
near_with faces depths = record { faces = faces; depths = depths }

-- what is near the set at a place
abbrev pub near_at : List Near → ℕ → Near
near_at sets place = slice_index_or sets place (near_with [] [])

-- the moat of a level: the faces near its set that lie no deeper
abbrev pub moat_of : List Near → Level → Moat
moat_of sets l = record {
  faces = up_to l.most (near_at sets l.place).faces (near_at sets l.place).depths;
  half = l.half;
}

-- the moats of all levels, in their order
abbrev pub moats_of : List Near → List Level → List Moat
moats_of sets levels = map (moat_of sets) levels

-- each face has its depth, and each level its set
pub record AreLaid (sets : List Near) (levels : List Level) : Type 0 where
  pub sizes : All (λ n. length n.depths ≡ length n.faces) sets
  pub places : All (λ l. l.place < length sets) levels
