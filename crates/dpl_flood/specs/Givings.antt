-- A top that falls gives way to its children.
use Rattle.std.specs.Prelude.{◌≡◌, ◌≢◌, ℕ, ◌+◌, ◌*◌, ◌<◌, ◌⊎◌, true, List, length, slice_index}
use Rattle.dpl_laminar.specs.Families.{Sets, has}
use Rattle.dpl_laminar.specs.Storing.{sets_of}
use Rattle.dpl_dual.specs.declared.crosses.Dual.{Dual}
use Rattle.dpl_pack.specs.Tides.{place_of}
use Rattle.dpl_tree.specs.steps.Growth.{IsStageBy, IsNextBy, HasGivenWay}
use Rattle.dpl_tree.specs.Views as views
use Rattle.dpl_flood.specs.declared.state.State.{State}
use Rattle.dpl_flood.specs.Forested.{trees_of}
use Rattle.dpl_flood.specs.Holdings.{stack_of}
use Rattle.dpl_flood.specs.Queues.{never}
use Rattle.dpl_flood.specs.Seas.{due_of}
use Rattle.dpl_flood.specs.States.{IsWayFrom, sea_of, fall_of, top_keys}

-- a child of a set that holds a member, whose value one number has more than another
pub record IsLessBy (f : Sets) (set m old new : ℕ) : Type 0 where
  pub child : ℕ
  pub below : child < 2 * f.size
  pub is_child : has (f.children set) child ≡ true
  pub holds : f.holds child m ≡ true
  pub sum : new + f.value child ≡ old

-- the first members of a top have the value of their child less than they had, and all others what they had
pub record AreSettled (f : Sets) (set count : ℕ) (old new : List ℕ) : Type 0 where
  pub sizes : length new ≡ length old
  pub inside : (m : ℕ) → m < count → f.top m ≡ set → IsLessBy f set m (slice_index old m) (slice_index new m)
  pub others : (m : ℕ) → (m < count → f.top m ≢ set) → slice_index new m ≡ slice_index old m

-- A set has given way to its children, and no sets inside a top have more than they had. No face and no key has changed.
pub record HasOpened (x : State) (set : ℕ) (y : State) : Type 0 where
  pub rest : y ≡ record x { family = y.family; tree = y.tree; mates = y.mates; inners = y.inners }
  pub next : (dist : ℕ → ℕ → ℕ) → IsStageBy (sets_of x.family) (trees_of x) dist →
      IsNextBy (sets_of x.family) (trees_of x) (sets_of y.family) (trees_of y) dist
  pub given : HasGivenWay (sets_of x.family) (trees_of x) set (sets_of y.family) (trees_of y)
  pub sized : views.IsSized (sets_of x.family).size y.tree
  pub mates : length y.mates.items ≡ length x.mates.items
  pub inners : AreSettled (sets_of x.family) set (sets_of x.family).size x.inners.items y.inners.items

-- all children of a set, which are sets
pub record AreChildren (f : Sets) (set : ℕ) (children : List ℕ) : Type 0 where
  pub below : (i : ℕ) → i < length children → slice_index children i < 2 * f.size
  pub all : (c : ℕ) → has (f.children set) c ≡ true → (i : ℕ) × ((i < length children) × (slice_index children i ≡ c))

-- The keys of the first of these tops and of the ways at their faces are what is due there. Each other key is as it was, or what
-- is due too.
pub record AreKeyedAll (d : Dual) (x : State) (tops : List ℕ) (count : ℕ) (old new : List ℕ) : Type 0 where
  pub sizes : length new ≡ length old
  pub at : (j g w : ℕ) → j < count → g < d.faces → place_of (sets_of x.family) ((sea_of x).point g) ≡ slice_index tops j →
      IsWayFrom d g w → slice_index new w ≡ due_of d (sea_of x) never w
  pub falls : (j : ℕ) → j < count → top_keys d new (slice_index tops j) ≡ fall_of (sea_of x) (stack_of x.held) (slice_index tops j)
  pub ways : (w : ℕ) → w < length d.crosses → (slice_index new w ≡ slice_index old w) ⊎ (slice_index new w ≡ due_of d (sea_of x) never w)
  pub others : (k : ℕ) → (top_keys d new k ≡ top_keys d old k) ⊎ (top_keys d new k ≡ fall_of (sea_of x) (stack_of x.held) k)
