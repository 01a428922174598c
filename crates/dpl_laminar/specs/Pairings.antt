-- Perfect pairings of members and the law of weak duality for odd sets: the dual of the matching problem, after
-- Edmonds 1965, "Maximum matching and a polyhedron with 0,1-vertices".
use Rattle.std.specs.Prelude.{◌≡◌, ◌≢◌, ℕ, ◌%◌, ◌<◌, ◌≤◌, ◌⊎◌, Bool, nat_lt, if◌then◌else◌}
use Rattle.dpl_laminar.specs.Families.{Sets, IsFamily, load_of, total_of}
use Rattle.dpl_laminar.specs.Loads.{sum_below, size_of, load_in}

-- each of the sets below k that has a value has an odd number of the n members
abbrev pub AreOdd : ℕ → ℕ → (ℕ → ℕ) → (ℕ → ℕ → Bool) → Type 0
AreOdd n k value holds = (i : ℕ) → i < k → (value i ≡ 0) ⊎ (size_of n (holds i) % 2 ≡ 1)

-- no load of two members is more than their distance
abbrev pub AreWithin : ℕ → ℕ → (ℕ → ℕ) → (ℕ → ℕ → Bool) → (ℕ → ℕ → ℕ) → Type 0
AreWithin n k value holds distance = (s t : ℕ) → s < n → t < n → s ≢ t →
    load_in k value holds s t ≤ distance s t

-- each of the n members has another one as its mate, and is the mate of that one
pub record IsPairing (n : ℕ) (mate : ℕ → ℕ) : Type 0 where
  pub range : (m : ℕ) → m < n → mate m < n
  pub back : (m : ℕ) → m < n → mate (mate m) ≡ m
  pub apart : (m : ℕ) → m < n → mate m ≢ m

-- the sum of w over the pairs, each taken once, at its smaller member
abbrev pub pairs_sum : ℕ → (ℕ → ℕ) → (ℕ → ℕ → ℕ) → ℕ
pairs_sum n mate w = sum_below n (λ m. if nat_lt m (mate m) then w m (mate m) else 0)

-- The law: where no load is more than the distance, no perfect pairing has a sum below the sum of the values.
abbrev pub ValuesBoundPairings : Type 0
ValuesBoundPairings = (n k : ℕ) (value : ℕ → ℕ) (holds : ℕ → ℕ → Bool) (distance : ℕ → ℕ →
    ℕ) (mate : ℕ → ℕ) →
    AreOdd n k value holds → AreWithin n k value holds distance → IsPairing n mate →
    sum_below k value ≤ pairs_sum n mate distance

-- The same of a family: where no load is more than the distance, no perfect pairing has a sum below the total.
abbrev pub FamiliesBoundPairings : Type 0
FamiliesBoundPairings = (f : Sets) (distance : ℕ → ℕ → ℕ) (mate : ℕ → ℕ) →
    IsFamily f →
    ((s t : ℕ) → s < f.size → t < f.size → s ≢ t → load_of f s t ≤ distance s t) →
    IsPairing f.size mate → total_of f ≤ pairs_sum f.size mate distance
