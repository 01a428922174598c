-- What a flood says of loads, chains and pairings.
use Rattle.std.specs.Prelude.{◌≡◌, ◌≢◌, ℕ, ◌+◌, ◌<◌, ◌≤◌, List, length, slice_index}
use Rattle.dpl_laminar.specs.Families.{Sets, IsFamily, load_of, total_of}
use Rattle.dpl_laminar.specs.Pairings.{IsPairing, pairs_sum}
use Rattle.dpl_dual.specs.declared.crosses.Cross.{Cross}
use Rattle.dpl_dual.specs.declared.crosses.Dual.{Dual}
use Rattle.dpl_dual.specs.Chains.{Leads, length_of}
use Rattle.dpl_dual.specs.Duals.{CameFromDual}
use Rattle.dpl_pack.specs.Moats.{AreTerminals, AreWithin}
use Rattle.dpl_pack.specs.Points.{Point, on, apart}
use Rattle.dpl_pack.specs.Floods.{IsFlood, AreTight}

-- The load of two members is how far their seats are apart, and what is apart obeys the triangle rule.
abbrev pub LoadsAreApart : Type 0
LoadsAreApart = (f : Sets) → ((t u : ℕ) → load_of f t u ≡ apart f (on t 0) (on u 0)) ×
    ((p q r : Point) → apart f p r ≤ apart f p q + apart f q r)

-- In a flood no load is above any chain.
abbrev pub FloodsBoundLoads : Type 0
FloodsBoundLoads = (d : Dual) (terminals : List ℕ) (f : Sets) (point : ℕ → Point) →
    IsFlood d terminals f point → AreWithin d terminals f

-- And where no load is above any chain, there is a flood.
abbrev pub LoadsMakeFloods : Type 0
LoadsMakeFloods = (d : Dual) (terminals : List ℕ) (f : Sets) → CameFromDual d →
    AreTerminals d terminals → IsFamily f → f.size ≡ length terminals →
    AreWithin d terminals f → (point : ℕ → Point) × IsFlood d terminals f point

-- Pairs over tight chains, where each set that has a value is left by just one pair, are as long as the values together.
abbrev pub TightPairsAddUp : Type 0
TightPairsAddUp = (d : Dual) (terminals : List ℕ) (f : Sets) (mate : ℕ → ℕ) →
    AreTight d terminals f mate → total_of f ≡ pairs_sum f.size mate (load_of f)

-- In a flood no pairing over chains is shorter.
abbrev pub TightFloodsAreLeast : Type 0
TightFloodsAreLeast = (d : Dual) (terminals : List ℕ) (f : Sets) (point : ℕ → Point) (mate other : ℕ →
    ℕ) (long : ℕ → ℕ → ℕ) →
    IsFamily f → IsFlood d terminals f point → AreTight d terminals f mate → IsPairing f.size other →
    ((s t : ℕ) → s < f.size → t < f.size → s ≢ t → (xs : List Cross) ×
    Leads d.crosses (slice_index terminals s) xs (slice_index terminals t) × (length_of xs ≤ long s t)) →
    pairs_sum f.size mate (load_of f) ≤ pairs_sum f.size other long
