-- A family as a tree: from the seat of each member a way leads out to open water, through the sets that hold the member,
-- the inner ones first, each as long as its value. The ways of two members run together in the sets that hold both.
-- Jünger and Pulleyblank 1993, "Geometric duality and combinatorial optimization", draw the sets as moats round terminals.
use Rattle.std.specs.Prelude.{ℕ, ◌-◌, ◌*◌, ◌==◌, min, if◌then◌else◌}
use Rattle.dpl_laminar.specs.Loads.{sum_below}
use Rattle.dpl_laminar.specs.Families.{Sets, total_of}
use Rattle.dpl_pack.specs.Depths.{gap}
use Rattle.dpl_pack.specs.Nests.{inner_of}

-- a point of the tree: open water, or a place so far from the seat of a member on its way out
pub data Point : Type 0 where
  water : Point
  on : ℕ → ℕ → Point

-- how deep a point lies in a set: how far out beyond the sets inside, and as much as the value where it is not in the set
abbrev pub depth_in : Sets → Point → ℕ → ℕ
depth_in f water k = f.value k
depth_in f (on t far) k = if f.holds k t then min (f.value k) (far - inner_of f k t) else f.value k

-- how far two points are apart in the tree
abbrev pub apart : Sets → Point → Point → ℕ
apart f p q = sum_below (2 * f.size) (λ k. gap (depth_in f p k) (depth_in f q k))

-- distances of the members that give a point its depths: from its own member how far it is, and from the others as much as
-- no depth is
abbrev pub far_in : Sets → Point → ℕ → ℕ
far_in f water u = total_of f
far_in f (on t far) u = if t == u then far else total_of f

-- those of the points of all faces
abbrev pub fars : Sets → (ℕ → Point) → ℕ → ℕ → ℕ
fars f point g = far_in f (point g)

-- how far the seat of a member is from open water
abbrev pub total_at : Sets → ℕ → ℕ
total_at f t = sum_below (2 * f.size) (λ k. if f.holds k t then f.value k else 0)
