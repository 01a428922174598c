-- What a step starts from and what it leads to: trees over the tops of a family, by any distances that make them those of
-- a stage.
use Rattle.std.specs.Prelude.{◌≡◌, ◌≢◌, ℕ, ◌+◌, ◌*◌, ◌<◌, false, Option, List, length, slice_index}
use Rattle.dpl_laminar.specs.Changes.{IsShrunk, IsExpanded}
use Rattle.dpl_laminar.specs.Families.{Sets, IsFamily, has}
use Rattle.dpl_tree.specs.declared.tree.Tree.{Tree}
use Rattle.dpl_tree.specs.steps.Forests.{free, outer, Forest, IsCycle, Folds, KeepOthers}
use Rattle.dpl_tree.specs.Mates.{loads, totals, DropsInside}
use Rattle.dpl_tree.specs.Metrics.{AreSymmetric}
use Rattle.dpl_tree.specs.Stages.{IsRest, IsStage, Advances, AreRanked, KeepsTrees, Widens}
use Rattle.dpl_tree.specs.Views.{place_in, IsSized}

-- distances by which the pairs between the tops of a family are those between two stages
pub record IsRestBy (f : Sets) (mate : ℕ → Option ℕ) (dist : ℕ → ℕ → ℕ) : Type 0 where
  pub symmetric : AreSymmetric f.size dist
  pub rest : IsRest f.size f dist mate

-- distances by which the trees over the tops of a family are those of a stage
pub record IsStageBy (f : Sets) (x : Forest) (dist : ℕ → ℕ → ℕ) : Type 0 where
  pub symmetric : AreSymmetric f.size dist
  pub stage : IsStage f.size f dist x

-- and by which two members are tight
pub record AreTightBy (f : Sets) (x : Forest) (s t : ℕ) (dist : ℕ → ℕ → ℕ) : Type 0 where
  pub by : IsStageBy f x dist
  pub tight : loads f.size f s t ≡ dist s t

-- by the same distances the trees are those of a stage again, and nearer to its end
pub record IsNextBy (f : Sets) (x : Forest) (g : Sets) (y : Forest) (dist : ℕ → ℕ → ℕ) : Type 0 where
  pub advances : Advances f.size dist f x g y
  pub ranks : (bound : ℕ) → AreRanked x bound → AreRanked y (bound + 4 * f.size)
  pub totals : (m : ℕ) → m < f.size → totals f.size g m ≡ totals f.size f m
  pub widens : Widens f.size f x.place g y.place
  pub trees : KeepsTrees x y

-- the tops on two ways up to where they meet became one set, which stands in the tree for them, and the pairs inside it are
-- given up
pub record HasFolded (f : Sets) (x : Forest) (set : ℕ) (g : Sets) (y : Forest) : Type 0 where
  pub children : List ℕ
  pub joins : List (ℕ × ℕ)
  pub meet : ℕ
  pub shrunk : IsShrunk f children joins set g
  pub family : IsFamily g
  pub cycle : IsCycle f.size f x children meet
  pub folds : Folds x children meet set y
  pub drops : DropsInside f.size g x.mate y.mate

-- an inner set was taken away, and of all others none but its children stand in the trees otherwise than before, or in
-- another tree
pub record HasGivenWay (f : Sets) (x : Forest) (set : ℕ) (g : Sets) (y : Forest) : Type 0 where
  pub expanded : IsExpanded f set g
  pub family : IsFamily g
  pub leaves : y.place set ≡ free
  pub others : KeepOthers (f.children set) set x.place y.place
  pub trees : (k : ℕ) → k ≢ set → has (f.children set) k ≡ false → y.tree k ≡ x.tree k

-- a tree for each of some members: its top alone
pub record AreRoots (f : Sets) (members : List ℕ) (tree : Tree) : Type 0 where
  pub sized : IsSized f.size tree
  pub are_outer : (k : ℕ) → k < length members → place_in tree.labels.items (f.top (slice_index members k)) ≡ outer
  pub only : (i : ℕ) → place_in tree.labels.items i ≢ free → (place_in tree.labels.items i ≡ outer) × ((k : ℕ) ×
      (k < length members) × (f.top (slice_index members k) ≡ i) × (slice_index tree.trees.items i ≡ slice_index members k))
  pub ranks : (i : ℕ) → slice_index tree.ranks.items i ≡ 0
