-- What the moats of a flood are laid around.
use Rattle.std.specs.Prelude.{◌≡◌, ◌≢◌, ℕ, ◌<◌, ◌≤◌, ◌^◌, true, List, length, slice_index, All}
use Rattle.dpl_laminar.specs.Families.{Sets, has}
use Rattle.dpl_pack.specs.declared.surfaces.Surface.{Surface}
use Rattle.dpl_pack.specs.Points.{Point, water, on}
use Rattle.dpl_pack.specs.Spots.{AreSpots}
use Rattle.dpl_pack.specs.Stacks.{ends_at}

-- each member has its row, and no value is so great that sums come near the limits
pub record IsSurface (s : Surface) : Type 0 where
  pub ends : length s.ends.now ≡ length s.values.now
  pub small : (i : ℕ) → slice_index s.values.now i ≤ 2 ^ 50
  pub members : (i : ℕ) → All (λ e. e.0 < length s.spots.now) (ends_at s.ends.now i)
  pub inner : (i : ℕ) → All (λ e. e.1 ≤ 2 ^ 72) (ends_at s.ends.now i)

-- what members hold, face by face and member by member, and all of it among some faces
pub record IsAfloat (f : Sets) (point : ℕ → Point) (faces : List ℕ)
    (spots : List (List (ℕ × ℕ))) : Type 0 where
  pub are : AreSpots f point spots
  pub members : (g t far : ℕ) → point g ≡ on t far → t < f.size
  pub home : (g : ℕ) → point g ≢ water → has faces g ≡ true
