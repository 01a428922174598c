-- How far two points are apart, by the ways of their members out to open water.
use Rattle.std.specs.Prelude.{◌≡◌, ℕ, ◌*◌, ◌<◌, ◌&&◌, Bool, Option, Some, None, List, length, slice_index, if◌then◌else◌}
use Rattle.dpl_laminar.specs.Loads.{sum_below}
use Rattle.dpl_laminar.specs.Families.{Sets}
use Rattle.dpl_pack.specs.Depths.{gap}
use Rattle.dpl_pack.specs.Points.{Point, water, on, depth_in, total_at}

-- how far two points are apart in a set, but for one that holds the member of the second where these are left out
abbrev pub weight_in : Sets → ℕ × ℕ → ℕ × ℕ → Bool → ℕ → ℕ
weight_in f p q skips k =
    if skips && f.holds k q.0 then 0 else gap (depth_in f (on p.0 p.1) k) (depth_in f (on q.0 q.1) k)

-- the same in all sets that hold the member of the first
abbrev pub walked : Sets → ℕ × ℕ → ℕ × ℕ → Bool → ℕ
walked f p q skips = sum_below (2 * f.size) (λ k. if f.holds k p.0 then weight_in f p q skips k else 0)

-- for each member how far its seat is from open water
pub record AreTotals (f : Sets) (totals : List ℕ) : Type 0 where
  pub sizes : length totals ≡ f.size
  pub each : (t : ℕ) → t < f.size → slice_index totals t ≡ total_at f t

-- what is noted of a face: a member and how far, or nothing where it is in open water
abbrev pub point_of : Option (ℕ × ℕ) → Point
point_of None = water
point_of (Some s) = on s.0 s.1
