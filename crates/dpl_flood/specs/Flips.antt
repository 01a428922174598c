-- The edges that lie on an odd number of chains.
use Rattle.std.specs.Prelude.{◌≡◌, ◌≢◌, ℕ, ◌+◌, ◌%◌, ◌<◌, ◌≤◌, ◌==◌, Bool, List, [], ◌∷◌, length, count_by, All, slice_index, if◌then◌else◌}
use Rattle.std.specs.List.{flat_map}
use Rattle.dpl_map.specs.Planes.{joined_bit}
use Rattle.dpl_laminar.specs.Families.{Sets, total_of}
use Rattle.dpl_laminar.specs.Pairings.{pairs_sum}
use Rattle.dpl_dual.specs.declared.crosses.Cross.{Cross}
use Rattle.dpl_dual.specs.declared.crosses.Dual.{Dual}
use Rattle.dpl_dual.specs.Chains.{Leads, length_of}
use Rattle.dpl_pack.specs.Moats.{AreWithin}

-- a chain of ways between two faces
pub record Chain : Type 0 where
  pub from : ℕ
  pub to : ℕ
  pub ways : List Cross

abbrev pub all_ways : List Chain → List Cross
all_ways cs = flat_map (λ c. c.ways) cs

abbrev pub ends_of : List Chain → List ℕ
ends_of cs = flat_map (λ c. c.from ∷ c.to ∷ []) cs

-- how often an edge lies on these ways
abbrev pub times : List Cross → ℕ → ℕ
times xs e = count_by (λ x. x.edge == e) xs

abbrev pub times_in : List ℕ → ℕ → ℕ
times_in xs x = count_by (λ y. y == x) xs

-- the edges of these ways are joined or parted, one after another
pub record AreFlipped (chain : List Cross) (old new : List Bool) : Type 0 where
  pub places : length new ≡ length old
  pub each : (e : ℕ) → e < length old → joined_bit new e % 2 ≡ (joined_bit old e + times chain e) % 2

-- the pairs of the first n members are joined along chains that are so long
pub record ArePairsJoined (ways : List Cross) (terminals : List ℕ) (mate : ℕ → ℕ) (long : ℕ → ℕ → ℕ) (n : ℕ)
    (old new : List Bool) : Type 0 where
  pub chains : List Chain
  pub leads : All (λ c. Leads ways c.from c.ways c.to) chains
  pub ends : (f : ℕ) → times_in (ends_of chains) f
      ≡ pairs_sum n mate (λ s t. (if slice_index terminals s == f then 1 else 0)
      + (if slice_index terminals t == f then 1 else 0))
  pub together : length_of (all_ways chains) ≡ pairs_sum n mate long
  pub places : length new ≡ length old
  pub each : (e : ℕ) → e < length old → joined_bit new e % 2
      ≡ (joined_bit old e + times (all_ways chains) e) % 2

-- between any two of these faces a chain leads that is no longer
abbrev pub AreOverChains : List Cross → List ℕ → (ℕ → ℕ → ℕ) → Type 0
AreOverChains ways terminals long = (s t : ℕ) → s < length terminals → t < length terminals → s ≢ t → (xs : List Cross) ×
    Leads ways (slice_index terminals s) xs (slice_index terminals t) × (length_of xs ≤ long s t)

-- the faces have been joined in pairs along chains which are as long as the family weighs
pub record AreJoinedBy (d : Dual) (terminals : List ℕ) (f : Sets)
    (old new : List Bool) : Type 0 where
  pub size : f.size ≡ length terminals
  pub within : AreWithin d terminals f
  pub chains : List Chain
  pub leads : All (λ c. Leads d.crosses c.from c.ways c.to) chains
  pub ends : (x : ℕ) → times_in (ends_of chains) x ≡ times_in terminals x
  pub long : length_of (all_ways chains) ≡ total_of f
  pub places : length new ≡ length old
  pub each : (e : ℕ) → e < length old → joined_bit new e % 2
      ≡ (joined_bit old e + times (all_ways chains) e) % 2
