-- The faces that members hold, member by member, and those of them that lie in a set less deep than its value.
use Rattle.std.specs.Prelude.{◌≡◌, ℕ, ◌+◌, ◌-◌, ◌<◌, nat_lt, List, [], ◌∷◌, length, if◌then◌else◌, All, Contains}
use Rattle.std.specs.List.{flat_map}
use Rattle.dpl_laminar.specs.Families.{Sets}
use Rattle.dpl_pack.specs.declared.held.Held.{Held}
use Rattle.dpl_pack.specs.Points.{Point, on}
use Rattle.dpl_pack.specs.Stacks.{ends_at}

-- a face and how far it is from the seat of the member that holds it
abbrev pub spot_of : Held → ℕ × ℕ
spot_of h = (h.face, h.far)

-- for each member the faces that it holds, each with how far it is
pub record AreSpots (f : Sets) (point : ℕ → Point) (spots : List (List (ℕ × ℕ))) : Type 0 where
  pub rows : length spots ≡ f.size
  pub each : (t : ℕ) → t < f.size → All (λ (s : ℕ × ℕ). point s.0 ≡ on t s.1) (ends_at spots t)
  pub all : (g t far : ℕ) → point g ≡ on t far → Contains (ends_at spots t) (g, far)

-- a face that a member of a set holds, with its depth in the set, where that is less than the value
abbrev pub near_one : ℕ → ℕ × ℕ → ℕ × ℕ → List (ℕ × ℕ)
near_one value e s = if nat_lt s.1 (e.1 + value) then (s.0, s.1 - e.1) ∷ [] else []

-- all that the members of a set hold less deep than its value
abbrev pub near_held : ℕ → List (ℕ × ℕ) → List (List (ℕ × ℕ)) → List (ℕ × ℕ)
near_held value ends spots = flat_map (λ e. flat_map (near_one value e) (ends_at spots e.0)) ends
