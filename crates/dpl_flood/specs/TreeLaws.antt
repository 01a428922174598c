-- The events of trees are events of moats.
use Rattle.std.specs.Prelude.{◌≡◌, ◌≢◌, ℕ, ◌*◌, ◌<◌, ◌≤◌, Bool, true, false, List}
use Rattle.dpl_laminar.specs.Families.{Sets, IsFamily, has}
use Rattle.dpl_laminar.specs.Changes.{IsShrunk, IsExpanded}
use Rattle.dpl_dual.specs.declared.crosses.Dual.{Dual}
use Rattle.dpl_tree.specs.Stages.{IsStage, Ends}
use Rattle.dpl_tree.specs.steps.Forests.{free, outer, inner, Forest, IsCycle, Opens, Walks, KeepOthers}
use Rattle.dpl_tree.specs.steps.Forests as forests
use Rattle.dpl_flood.specs.Seas.{Sea, IsSea, Grows, Ceases, Folds, GivesWay}
use Rattle.dpl_flood.specs.Rates.{gains_in, losses_in, AreRated, AreRested}

-- A free top and its mate go into a tree.
abbrev pub ForestsGrow : Type 0
ForestsGrow = (d : Dual) (terminals : List ℕ) (n : ℕ) (s : Sea) (dist : ℕ → ℕ → ℕ) (x y : Forest) (m t o : ℕ) (rests : ℕ → Bool) →
    IsSea d terminals s → s.sets.size ≡ n → AreRated x.place s → IsStage n s.sets dist y →
    forests.Grows s.sets x m t o y → m < n → t < n → o < n → x.place (s.sets.top m) ≡ outer →
    x.place (s.sets.top t) ≡ free → s.sets.top t ≢ s.sets.top o → s.rests (s.sets.top t) ≡ false →
    rests (s.sets.top o) ≡ false → ((k : ℕ) → k ≢ s.sets.top o → rests k ≡ s.rests k) →
    Grows s (s.sets.top t) (s.sets.top o) (gains_in y.place) (losses_in y.place) rests

-- Two trees end.
abbrev pub ForestsCease : Type 0
ForestsCease = (n : ℕ) (dist : ℕ → ℕ → ℕ) (s : Sea) (one two : ℕ) (x y : Forest) (rests : ℕ → Bool) → AreRated x.place s →
    Ends n dist s.sets one two x y → AreRested x.place y.place s.rests rests →
    ((k : ℕ) → rests k ≡ true → k < 2 * s.sets.size) →
    Ceases s (gains_in y.place) (losses_in y.place) rests

-- A ring of tops of a tree becomes one top.
abbrev pub ForestsFold : Type 0
ForestsFold = (n : ℕ) (s : Sea) (x y : Forest) (children : List ℕ) (joins : List (ℕ × ℕ)) (meet set : ℕ) (new : Sets) (rests : ℕ → Bool) →
    AreRated x.place s → IsShrunk s.sets children joins set new → IsFamily new →
    IsCycle n s.sets x children meet → forests.Folds x children meet set y → rests set ≡ false →
    ((c : ℕ) → has children c ≡ true → rests c ≡ false) →
    ((k : ℕ) → k ≢ set → has children k ≡ false → rests k ≡ s.rests k) →
    Folds s children joins set new (gains_in y.place) (losses_in y.place) rests

-- An inner set gives way to its children, which enter the tree one after another.
abbrev pub FirstKeepsOthers : Type 0
FirstKeepsOthers = (x y : Forest) (children : List ℕ) (set first room : ℕ) → Opens x set first room y → has children first ≡ true →
    KeepOthers children set x.place y.place

abbrev pub WalksKeepOthers : Type 0
WalksKeepOthers = (x y z : Forest) (children : List ℕ) (set cur o next : ℕ) (join : ℕ × ℕ) → KeepOthers children set x.place y.place →
    Walks y cur o next join z → has children o ≡ true → has children next ≡ true →
    KeepOthers children set x.place z.place

abbrev pub ForestsGive : Type 0
ForestsGive = (s : Sea) (x y : Forest) (set : ℕ) (new : Sets) (rests : ℕ → Bool) → AreRated x.place s →
    IsExpanded s.sets set new → IsFamily new → s.sets.size ≤ set → set < 2 * s.sets.size →
    s.sets.value set ≡ 0 → x.place set ≡ inner → y.place set ≡ free →
    KeepOthers (s.sets.children set) set x.place y.place → rests set ≡ false →
    ((c : ℕ) → has (s.sets.children set) c ≡ true → rests c ≡ false) →
    ((k : ℕ) → k ≢ set → has (s.sets.children set) k ≡ false → rests k ≡ s.rests k) →
    GivesWay s set new (gains_in y.place) (losses_in y.place) rests
