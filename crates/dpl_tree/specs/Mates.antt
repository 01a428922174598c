-- Pairs between the top sets of a family, and the sums of values that a member and a pair of
-- members carry.
use Rattle.std.specs.Prelude.{◌≡◌, ◌≢◌, ℕ, ◌*◌, ◌<◌, ◌==◌, Bool, if◌then◌else◌, Option, Some, None}
use Rattle.dpl_laminar.specs.Families.{Sets}
use Rattle.dpl_laminar.specs.Loads.{sum_below, load_in}

-- the sum of the values of the sets that hold a member
abbrev pub total_in : ℕ → (ℕ → ℕ) → (ℕ → ℕ → Bool) → ℕ → ℕ
total_in k value holds m = sum_below k (λ i. if holds i m then value i else 0)

-- the load of two members
abbrev pub loads : ℕ → Sets → ℕ → ℕ → ℕ
loads n f = load_in (2 * n) f.value f.holds

-- the sum of the values of the sets that hold a member
abbrev pub totals : ℕ → Sets → ℕ → ℕ
totals n f = total_in (2 * n) f.value f.holds

-- a member of a top set and its mate
pub record IsExit (n : ℕ) (f : Sets) (mate : ℕ → Option ℕ) (set m t : ℕ) : Type 0 where
  pub below : m < n
  pub top : f.top m ≡ set
  pub paired : mate m ≡ Some t

-- pairs are mutual, tight and between different tops, and each top has at most one
pub record ArePairs (n : ℕ) (f : Sets) (load dist : ℕ → ℕ → ℕ) (mate : ℕ → Option ℕ) : Type 0 where
  pub range : (m t : ℕ) → m < n → mate m ≡ Some t → t < n
  pub back : (m t : ℕ) → m < n → mate m ≡ Some t → mate t ≡ Some m
  pub leaves : (m t : ℕ) → m < n → mate m ≡ Some t → f.top m ≢ f.top t
  pub tight : (m t : ℕ) → m < n → mate m ≡ Some t → load m t ≡ dist m t
  pub alone : (m s t u : ℕ) → m < n → s < n → f.top m ≡ f.top s → mate m ≡ Some t →
      mate s ≡ Some u → m ≡ s

-- two members become mates
pub record Joins (mate : ℕ → Option ℕ) (s t : ℕ) (new : ℕ → Option ℕ) : Type 0 where
  pub first : new s ≡ Some t
  pub second : new t ≡ Some s
  pub others : (i : ℕ) → i ≢ s → i ≢ t → new i ≡ mate i

-- what stays of the mate of a member where the pairs inside one top set are given up
abbrev pub kept_outside : Sets → ℕ → Option ℕ → Option ℕ
kept_outside f m None = None
kept_outside f m (Some t) = if f.top m == f.top t then None else Some t

-- the pairs that lie inside one top set are given up
pub record DropsInside (n : ℕ) (f : Sets) (mate new : ℕ → Option ℕ) : Type 0 where
  pub inside : (m t : ℕ) → m < n → mate m ≡ Some t → f.top m ≡ f.top t → new m ≡ None
  pub outside : (m t : ℕ) → m < n → mate m ≡ Some t → f.top m ≢ f.top t → new m ≡ Some t
  pub unpaired : (m : ℕ) → m < n → mate m ≡ None → new m ≡ None
