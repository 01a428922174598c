-- Points while values change: the tops grow and fall, and the sets below them rest.
use Rattle.std.specs.Prelude.{◌≡◌, ◌≢◌, ℕ, ◌+◌, ◌*◌, ◌<◌, ◌≤◌, ◌⊎◌, ◌==◌, None, if◌then◌else◌}
use Rattle.dpl_laminar.specs.Loads.{sum_below}
use Rattle.dpl_laminar.specs.Families.{Sets}
use Rattle.dpl_pack.specs.Nests.{inner_of}
use Rattle.dpl_dual.specs.declared.crosses.Cross.{Cross}
use Rattle.dpl_pack.specs.Points.{Point, water, on, apart}

-- the same sets with other values
abbrev pub with_values : Sets → (ℕ → ℕ) → Sets
with_values f v = record f {
  value =
      v;
}

-- the values of tops have changed by what they gain and what they lose, and the others have not
pub record AreTurned (f : Sets) (gain loss v : ℕ → ℕ) : Type 0 where
  pub each : (k : ℕ) → k < 2 * f.size → v k + loss k ≡ f.value k + gain k
  pub gains : (k : ℕ) → k < 2 * f.size → (gain k ≡ 0) ⊎ (f.parent k ≡ None)
  pub losses : (k : ℕ) → k < 2 * f.size → (loss k ≡ 0) ⊎ (f.parent k ≡ None)

-- a point is no farther out than the top of its member reaches, by these values
pub record IsOn (f : Sets) (v : ℕ → ℕ) (t far : ℕ) : Type 0 where
  pub member : t < f.size
  pub reached : far ≤ inner_of f (f.top t) t + v (f.top t)

-- the top on which a point stands, or a number that no set has
abbrev pub place_of : Sets → Point → ℕ
place_of f water = 2 * f.size
place_of f (on t far) = f.top t

-- what a number has of a change of the sets
abbrev pub share : Sets → (ℕ → ℕ) → ℕ → ℕ
share f w i = sum_below (2 * f.size) (λ k. if i == k then w k else 0)

-- a point is on its top, and stays on it where the values turn to others
abbrev pub Stays : Sets → (ℕ → ℕ) → Point → Type 0
Stays f v water = Unit {0}
Stays f v (on t far) = IsOn f f.value t far × IsOn f v t far

-- two families that are the same but for one set, which has no value
pub record AreBut (set : ℕ) (f g : Sets) : Type 0 where
  pub size : g.size ≡ f.size
  pub value : (k : ℕ) → g.value k ≡ f.value k
  pub none : f.value set ≡ 0
  pub holds : (k m : ℕ) → k < 2 * f.size → k ≢ set → m < f.size → g.holds k m ≡ f.holds k m

-- the same points but for that of one face
abbrev pub moved : (ℕ → Point) → ℕ → Point → ℕ → Point
moved point g q h = if h == g then q else point h

-- a way between two tops has room for what these gain beyond what they lose
abbrev pub HasRoom : Sets → (ℕ → ℕ) → (ℕ → ℕ) → (ℕ → Point) → Cross → Type 0
HasRoom f gain loss point x = place_of f (point x.f) ≢ place_of f (point x.g) →
    apart f (point x.f) (point x.g) + (share f gain (place_of f (point x.f)) + share f gain (place_of f (point x.g)))
    ≤ x.length + (share f loss (place_of f (point x.f)) + share f loss (place_of f (point x.g)))
