-- A climb to the root of a tree, and what it makes of the pairs.
use Rattle.std.specs.Prelude.{◌≡◌, ◌≢◌, ℕ, ◌<◌, ◌≤◌, Option}
use Rattle.dpl_laminar.specs.Families.{Sets}
use Rattle.dpl_tree.specs.steps.Forests.{outer, Forest, IsExposed, IsClimb, IsBeside}
use Rattle.dpl_tree.specs.Mates.{IsExit, ArePairs, loads}
use Rattle.dpl_tree.specs.Stages.{IsStage}

-- a climb in a tree of a stage, of whose pairs some may have changed since
pub record IsWay (n : ℕ) (f : Sets) (dist : ℕ → ℕ → ℕ) (x : Forest) (mate : ℕ → Option ℕ)
    (join : ℕ × ℕ) : Type 0 where
  pub stage : IsStage n f dist x
  pub climb : IsClimb n f dist x mate join

-- On the way from the join at the start, with the pairs as they were there: each set has its pair,
-- but for the second one's set, and beside the way nothing has changed.
pub record IsClimbing (n : ℕ) (f : Sets) (dist : ℕ → ℕ → ℕ) (x : Forest) (begin : ℕ → Option ℕ)
    (start : ℕ × ℕ) (mate : ℕ → Option ℕ) (join : ℕ × ℕ) : Type 0 where
  pub climb : IsClimb n f dist x mate join
  pub same : x.tree (f.top join.0) ≡ x.tree (f.top start.0)
  pub low : x.rank (f.top join.0) ≤ x.rank (f.top start.0)
  pub kept : (i m u : ℕ) → i ≢ f.top join.1 → IsExit n f begin i m u →
      (a : ℕ) × (c : ℕ) × IsExit n f mate i a c
  pub second : f.top start.1 ≢ f.top join.1 → (a : ℕ) × (c : ℕ) × IsExit n f mate (f.top start.1) a c
  pub others : (m : ℕ) → m < n → IsBeside x (f.top start.0) (f.top m) →
      f.top m ≢ f.top start.1 → mate m ≡ begin m
  pub far : IsBeside x (f.top start.0) (f.top join.1) → f.top join.1 ≡ f.top start.1

-- what the climb from a join made of the pairs: the root has one too
pub record IsClimbed (n : ℕ) (f : Sets) (dist : ℕ → ℕ → ℕ) (x : Forest) (mate : ℕ → Option ℕ)
    (join : ℕ × ℕ) (new : ℕ → Option ℕ) : Type 0 where
  pub pairs : ArePairs n f (loads n f) dist new
  pub kept : (i m u : ℕ) → IsExit n f mate i m u → (a : ℕ) × (c : ℕ) × IsExit n f new i a c
  pub second : (a : ℕ) × (c : ℕ) × IsExit n f new (f.top join.1) a c
  pub root : (i : ℕ) → x.place i ≡ outer → x.tree i ≡ x.tree (f.top join.0) →
      IsExposed n f x.mate i → (a : ℕ) × (c : ℕ) × IsExit n f new i a c
  pub others : (m : ℕ) → m < n → IsBeside x (f.top join.0) (f.top m) → f.top m ≢ f.top join.1 →
      new m ≡ mate m

-- what freeing the top of the outer member t made of the pairs: the root has one in its place
pub record IsReleased (n : ℕ) (f : Sets) (dist : ℕ → ℕ → ℕ) (x : Forest) (t : ℕ)
    (new : ℕ → Option ℕ) : Type 0 where
  pub pairs : ArePairs n f (loads n f) dist new
  pub exposed : IsExposed n f new (f.top t)
  pub kept : (i m u : ℕ) → i ≢ f.top t → IsExit n f x.mate i m u →
      (a : ℕ) × (c : ℕ) × IsExit n f new i a c
  pub root : (i : ℕ) → i ≢ f.top t → x.place i ≡ outer → x.tree i ≡ x.tree (f.top t) →
      IsExposed n f x.mate i → (a : ℕ) × (c : ℕ) × IsExit n f new i a c
  pub others : (m : ℕ) → m < n → IsBeside x (f.top t) (f.top m) → new m ≡ x.mate m
