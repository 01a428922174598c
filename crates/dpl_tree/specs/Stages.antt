-- What holds between two stages, and between two turns of a stage: the family overloads no pair,
-- and pairs, joins and the edges of the tree are tight.
use Rattle.std.specs.Prelude.{◌≡◌, ◌≢◌, ℕ, ◌+◌, ◌*◌, ◌%◌, ◌<◌, ◌≤◌, ◌^◌, ◌⊎◌, Bool, true, false}
use Rattle.std.specs.Prelude.{Option, Some}
use Rattle.dpl_laminar.specs.Families.{Sets, IsFamily, IsLaminar}
use Rattle.dpl_laminar.specs.Loads.{sum_below}
use Rattle.dpl_laminar.specs.Pairings.{AreWithin}
use Rattle.dpl_tree.specs.Mates.{total_in, loads, totals, IsExit, ArePairs}
use Rattle.dpl_tree.specs.steps.Forests.{Place, free, outer, inner, Forest, IsForest}

-- 0 for an outer set
abbrev pub weight : Place → ℕ → ℕ
weight free k = k
weight outer k = 0
weight inner k = k

abbrev pub as_number : Bool → ℕ
as_number true = 1
as_number false = 0

-- What falls with each turn of a stage: each member counts once while its top set is not outer,
-- and once more if it is the one that gives a set its number.
abbrev pub potential : ℕ → Sets → (ℕ → Place) → ℕ
potential n f place = sum_below n (λ m. weight (place (f.top m)) (1 + as_number (f.live (n + m))))

-- totals of members of one top, and of tops of the tree, have one parity
pub record HasParity (n : ℕ) (f : Sets) (place : ℕ → Place) (v : ℕ → ℕ) : Type 0 where
  pub in_top : (s t : ℕ) → s < n → t < n → f.top s ≡ f.top t →
      total_in (2 * n) v f.holds s % 2 ≡ total_in (2 * n) v f.holds t % 2
  pub in_tree : (s t : ℕ) → s < n → t < n → place (f.top s) ≢ free → place (f.top t) ≢ free →
      total_in (2 * n) v f.holds s % 2 ≡ total_in (2 * n) v f.holds t % 2

-- What holds between two stages: a family that overloads no pair, tight pairs between its tops,
-- and tight joins.
pub record IsRest (n : ℕ) (f : Sets) (dist : ℕ → ℕ → ℕ) (mate : ℕ → Option ℕ) : Type 0 where
  pub size : f.size ≡ n
  pub family : IsFamily f
  pub laminar : IsLaminar n f
  pub within : AreWithin n (2 * n) f.value f.holds dist
  pub pairs : ArePairs n f (loads n f) dist mate
  pub joins : (c p : ℕ) → c < 2 * n → f.parent c ≡ Some p →
      loads n f (f.join c).0 (f.join c).1 ≡ dist (f.join c).0 (f.join c).1
  pub parity : (s t : ℕ) → s < n → t < n → f.top s ≡ f.top t → totals n f s % 2 ≡ totals n f t % 2

-- What holds between two turns of a stage: a tree as well.
pub record IsStage (n : ℕ) (f : Sets) (dist : ℕ → ℕ → ℕ) (x : Forest) : Type 0 where
  pub rest : IsRest n f dist x.mate
  pub tree : IsForest n f (loads n f) dist x
  pub even : (s t : ℕ) → s < n → t < n → x.place (f.top s) ≢ free → x.place (f.top t) ≢ free →
      totals n f s % 2 ≡ totals n f t % 2

-- the top of a member has a pair
abbrev pub IsCovered : ℕ → Sets → (ℕ → Option ℕ) → ℕ → Type 0
IsCovered n f mate k = (m : ℕ) × (t : ℕ) × IsExit n f mate (f.top k) m t

-- the top of a member has a pair, or is outer, as a root is
abbrev pub IsReady : ℕ → Sets → Forest → ℕ → Type 0
IsReady n f x k = IsCovered n f x.mate k ⊎ (x.place (f.top k) ≡ outer)

-- the most that ranks rise to: with all events that trees of the most members may have, by four for each member at each
abbrev pub most_rank : ℕ
most_rank = 2 ^ 63 + 2 ^ 44

-- no rank of a tree is above a bound
abbrev pub AreRanked : Forest → ℕ → Type 0
AreRanked x bound = (i : ℕ) → x.rank i ≤ bound

-- what an event between two turns keeps, and that it comes nearer to the end
pub record Advances (n : ℕ) (dist : ℕ → ℕ → ℕ) (f : Sets) (x : Forest) (g : Sets)
    (y : Forest) : Type 0 where
  pub stage : IsStage n g dist y
  pub falls : potential n g y.place < potential n f x.place
  pub ready : (k : ℕ) → k < n → IsReady n f x k → IsReady n g y k

-- Trees have ended, since their roots got pairs: the trees with these numbers are gone, and the others stand as they did.
pub record Ends (n : ℕ) (dist : ℕ → ℕ → ℕ) (f : Sets) (one two : ℕ) (x y : Forest) : Type 0 where
  pub stage : IsStage n f dist y
  pub ready : (k : ℕ) → k < n → IsReady n f x k → IsReady n f y k
  pub gone : (i : ℕ) → (x.tree i ≡ one) ⊎ (x.tree i ≡ two) → y.place i ≡ free
  pub others : (i : ℕ) → x.tree i ≢ one → x.tree i ≢ two → y.place i ≡ x.place i
  pub trees : (i : ℕ) → y.tree i ≡ x.tree i
  pub ranks : (i : ℕ) → y.rank i ≡ x.rank i
  pub stood : (i : ℕ) × (x.place i ≢ free) × (x.tree i ≡ one)

-- There are no trees but those that were there before.
abbrev pub KeepsTrees : Forest → Forest → Type 0
KeepsTrees x y = (i : ℕ) → y.place i ≢ free → (j : ℕ) × (x.place j ≢ free) × (y.tree i ≡ x.tree j)

-- Outer members stay outer, and who has an outer member's top keeps it.
pub record Widens (n : ℕ) (f : Sets) (place : ℕ → Place) (g : Sets)
    (place' : ℕ → Place) : Type 0 where
  pub outer_stays : (s : ℕ) → s < n → place (f.top s) ≡ outer → place' (g.top s) ≡ outer
  pub together : (s t : ℕ) → s < n → t < n → place (f.top s) ≡ outer → f.top s ≡ f.top t →
      g.top s ≡ g.top t

-- No top but that of the member o is new or has become outer.
pub record WidensBy (n : ℕ) (f : Sets) (place : ℕ → Place) (g : Sets) (place' : ℕ → Place)
    (o : ℕ) : Type 0 where
  pub below : o < n
  pub tops : (m : ℕ) → m < n → g.top m ≢ g.top o → g.top m ≡ f.top m
  pub others : (m : ℕ) → m < n → g.top m ≢ g.top o → place' (g.top m) ≡ outer →
      place (f.top m) ≡ outer
