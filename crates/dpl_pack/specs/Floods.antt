-- Faces as points in the tree of a family, over the odd faces of one part: what bounds a pairing without any distances.
-- Higgott and Gidney 2023, "Sparse blossom", flood a graph from its terminals so.
use Rattle.std.specs.Prelude.{◌≡◌, ◌≢◌, ℕ, ◌*◌, ◌<◌, ◌≤◌, Bool, List, map, slice_index, All, Contains, if◌then◌else◌}
use Rattle.dpl_laminar.specs.Loads.{differ}
use Rattle.dpl_laminar.specs.Families.{Sets, load_of}
use Rattle.dpl_laminar.specs.Pairings.{IsPairing, pairs_sum}
use Rattle.dpl_dual.specs.declared.crosses.Cross.{Cross}
use Rattle.dpl_dual.specs.declared.crosses.Dual.{Dual}
use Rattle.dpl_dual.specs.Chains.{Leads, length_of}
use Rattle.dpl_pack.specs.declared.held.Held.{Held}
use Rattle.dpl_pack.specs.Points.{Point, water, on, apart}

-- Each face has a point, an odd face that of its seat, and the points of two faces are no farther apart than a way between
-- them is long: what takes the faces into the tree stretches no way.
pub record IsFlood (d : Dual) (terminals : List ℕ) (f : Sets) (point : ℕ → Point) : Type 0 where
  pub members : (g t far : ℕ) → point g ≡ on t far → t < f.size
  pub seats : (t : ℕ) → t < f.size → apart f (point (slice_index terminals t)) (on t 0) ≡ 0
  pub ways : All (λ x. apart f (point x.f) (point x.g) ≤ x.length) d.crosses
  pub home : (g : ℕ) → point g ≢ water → (g < d.faces) ×
      (slice_index d.part g ≡ slice_index d.part (slice_index terminals 0))

-- the faces that are not in open water, each with its point
pub record AreHeld (held : List Held) (point : ℕ → Point) : Type 0 where
  pub each : All (λ h. point h.face ≡ on h.member h.far) held
  pub all : (g : ℕ) → point g ≢ water → Contains (map (λ h. h.face) held) g

-- a flood that holds these faces
pub record IsFloodOf (d : Dual) (terminals : List ℕ) (f : Sets) (held : List Held) : Type 0 where
  pub point : ℕ → Point
  pub are : AreHeld held point
  pub flood : IsFlood d terminals f point

-- how many pairs have just one member in a set
abbrev pub leaving : ℕ → (ℕ → ℕ) → (ℕ → Bool) → ℕ
leaving n mate set = pairs_sum n mate (λ s t. if differ (set s) (set t) then 1 else 0)

-- the members in pairs, each over a chain as long as its load, and each set that has a value left by just one pair
pub record AreTight (d : Dual) (terminals : List ℕ) (f : Sets) (mate : ℕ → ℕ) : Type 0 where
  pub pairing : IsPairing f.size mate
  pub chains : (s : ℕ) → s < f.size → (xs : List Cross) ×
      Leads d.crosses (slice_index terminals s) xs (slice_index terminals (mate s)) ×
      (length_of xs ≡ load_of f s (mate s))
  pub once : (k : ℕ) → k < 2 * f.size → 0 < f.value k → leaving f.size mate (f.holds k) ≡ 1
