-- The alternating trees of a stage over the top sets of a family, and what each single step makes of them, after
-- Edmonds 1965, "Paths, trees, and flowers".
use Rattle.std.specs.Prelude.{◌≡◌, ◌≢◌, ℕ, ◌+◌, ◌*◌, ◌<◌, ◌≤◌, ◌⊎◌, true, false, Option, None, List}
use Rattle.dpl_laminar.specs.Families.{Sets, has}
use Rattle.dpl_tree.specs.Mates.{IsExit, ArePairs, loads}

-- how a top set stands in the tree
pub data Place : Type 0 where
  free : Place
  outer : Place
  inner : Place

-- an outer member and a member of another top that stands so
pub record IsPair (n : ℕ) (f : Sets) (place : ℕ → Place) (want : Place) (s t : ℕ) : Type 0 where
  pub from : s < n
  pub to : t < n
  pub apart : f.top s ≢ f.top t
  pub from_outer : place (f.top s) ≡ outer
  pub to_place : place (f.top t) ≡ want

-- what the shifts add to a load and take from it
abbrev pub gain : Place → ℕ
gain free = 0
gain outer = 1
gain inner = 0

abbrev pub drop_of : Place → ℕ
drop_of free = 0
drop_of outer = 0
drop_of inner = 1

-- the same amount is added to each outer top and taken from each inner one
pub record Shifts (k : ℕ) (f : Sets) (place : ℕ → Place) (by : ℕ) (old new : ℕ → ℕ) : Type 0 where
  pub tops : (i : ℕ) → i < k → place i ≢ free → f.parent i ≡ None
  pub each : (i : ℕ) → i < k → new i + drop_of (place i) * by ≡ old i + gain (place i) * by

-- the pairs between tops, and the trees: by the numbers of the sets how they stand there, a rank that rises away from the
-- root, for an inner set the outer member and its own member that lead to it, and the number of the tree
pub record Forest : Type 0 where
  pub mate : ℕ → Option ℕ
  pub place : ℕ → Place
  pub rank : ℕ → ℕ
  pub above : ℕ → ℕ
  pub entry : ℕ → ℕ
  pub tree : ℕ → ℕ

-- a top set has no pair
abbrev pub IsExposed : ℕ → Sets → (ℕ → Option ℕ) → ℕ → Type 0
IsExposed n f mate i = (m t : ℕ) → IsExit n f mate i m t → ⊥

pub record IsForest (n : ℕ) (f : Sets) (load dist : ℕ → ℕ → ℕ) (x : Forest) : Type 0 where
  pub tops : (i : ℕ) → x.place i ≢ free → (i < 2 * n) × (f.live i ≡ true) × (f.parent i ≡ None)
  -- the root of a tree is its only outer set without a pair
  pub root_alone : (i j : ℕ) → x.place i ≡ outer → x.place j ≡ outer → IsExposed n f x.mate i →
      IsExposed n f x.mate j → x.tree i ≡ x.tree j → i ≡ j
  pub outer_mate : (i m t : ℕ) → x.place i ≡ outer → IsExit n f x.mate i m t →
      (x.place (f.top t) ≡ inner) × (x.rank (f.top t) < x.rank i) × (x.tree (f.top t) ≡ x.tree i)
  pub inner_pair : (i : ℕ) → x.place i ≡ inner → (m : ℕ) × (t : ℕ) × IsExit n f x.mate i m t
  pub inner_mate : (i m t : ℕ) → x.place i ≡ inner → IsExit n f x.mate i m t →
      (x.place (f.top t) ≡ outer) × (x.tree (f.top t) ≡ x.tree i)
  pub link_range : (i : ℕ) → x.place i ≡ inner → (x.above i < n) × (x.entry i < n)
  pub link_entry : (i : ℕ) → x.place i ≡ inner → f.top (x.entry i) ≡ i
  pub link_outer : (i : ℕ) → x.place i ≡ inner →
      (x.place (f.top (x.above i)) ≡ outer) × (x.tree (f.top (x.above i)) ≡ x.tree i)
  pub link_rank : (i : ℕ) → x.place i ≡ inner → x.rank (f.top (x.above i)) < x.rank i
  pub link_tight : (i : ℕ) → x.place i ≡ inner →
      load (x.above i) (x.entry i) ≡ dist (x.above i) (x.entry i)

-- what the place, the rank and the link of a set are after a pair of sets is taken into the tree
pub record Grows (f : Sets) (x : Forest) (s t o : ℕ) (y : Forest) : Type 0 where
  pub mates : (i : ℕ) → y.mate i ≡ x.mate i
  pub place_inner : y.place (f.top t) ≡ inner
  pub place_outer : y.place (f.top o) ≡ outer
  pub place_others : (i : ℕ) → i ≢ f.top t → i ≢ f.top o → y.place i ≡ x.place i
  pub rank_inner : y.rank (f.top t) ≡ x.rank (f.top s) + 1
  pub rank_outer : y.rank (f.top o) ≡ x.rank (f.top s) + 2
  pub rank_others : (i : ℕ) → i ≢ f.top t → i ≢ f.top o → y.rank i ≡ x.rank i
  pub above : y.above (f.top t) ≡ s
  pub entry : y.entry (f.top t) ≡ t
  pub link_others : (i : ℕ) → i ≢ f.top t → (y.above i ≡ x.above i) × (y.entry i ≡ x.entry i)
  pub tree_inner : y.tree (f.top t) ≡ x.tree (f.top s)
  pub tree_outer : y.tree (f.top o) ≡ x.tree (f.top s)
  pub tree_others : (i : ℕ) → i ≢ f.top t → i ≢ f.top o → y.tree i ≡ x.tree i

-- On the way to the root: the first member of a join, in an outer set of the tree x, is to become
-- the mate of the second one, in a set with no pair. The sets of the tree up to the rank of the
-- first one's set have their pairs.
pub record IsClimb (n : ℕ) (f : Sets) (dist : ℕ → ℕ → ℕ) (x : Forest) (mate : ℕ → Option ℕ)
    (join : ℕ × ℕ) : Type 0 where
  pub s_range : join.0 < n
  pub t_range : join.1 < n
  pub s_outer : x.place (f.top join.0) ≡ outer
  pub apart : f.top join.0 ≢ f.top join.1
  pub tight : loads n f join.0 join.1 ≡ dist join.0 join.1
  pub tight_back : loads n f join.1 join.0 ≡ dist join.1 join.0
  pub pairs : ArePairs n f (loads n f) dist mate
  pub t_free : IsExposed n f mate (f.top join.1)
  pub t_rank : x.place (f.top join.1) ≢ free → x.tree (f.top join.1) ≡ x.tree (f.top join.0) →
      x.rank (f.top join.0) < x.rank (f.top join.1)
  pub kept : (m : ℕ) → m < n → x.place (f.top m) ≢ free →
      x.tree (f.top m) ≡ x.tree (f.top join.0) → x.rank (f.top m) ≤ x.rank (f.top join.0) →
      mate m ≡ x.mate m

-- no way from the outer set i to its root comes to j
abbrev pub IsBeside : Forest → ℕ → ℕ → Type 0
IsBeside x i j = (x.place j ≡ free) ⊎ ((x.tree j ≢ x.tree i) ⊎ (x.rank i < x.rank j))

-- sets of the tree on two ways up to where they meet
pub record IsCycle (n : ℕ) (f : Sets) (x : Forest) (children : List ℕ) (meet : ℕ) : Type 0 where
  pub meet_in : has children meet ≡ true
  pub meet_outer : x.place meet ≡ outer
  pub ranks : (c : ℕ) → has children c ≡ true → x.rank meet ≤ x.rank c
  pub in_tree : (c : ℕ) → has children c ≡ true → x.place c ≢ free
  pub closed : (c m t : ℕ) → has children c ≡ true → c ≢ meet → IsExit n f x.mate c m t →
      has children (f.top t) ≡ true
  pub root_meets : (c : ℕ) → has children c ≡ true → IsExposed n f x.mate c → meet ≡ c
  pub same : (c : ℕ) → has children c ≡ true → x.tree c ≡ x.tree meet

-- a set takes the place of these in the tree
pub record Folds (x : Forest) (children : List ℕ) (meet set : ℕ) (y : Forest) : Type 0 where
  pub place_set : y.place set ≡ outer
  pub place_child : (i : ℕ) → has children i ≡ true → y.place i ≡ free
  pub place_others : (i : ℕ) → i ≢ set → has children i ≡ false → y.place i ≡ x.place i
  pub rank_set : y.rank set ≡ x.rank meet
  pub rank_others : (i : ℕ) → i ≢ set → y.rank i ≡ x.rank i
  pub above : (i : ℕ) → i ≢ set → y.above i ≡ x.above i
  pub entry : (i : ℕ) → i ≢ set → y.entry i ≡ x.entry i
  pub tree_set : y.tree set ≡ x.tree meet
  pub tree_others : (i : ℕ) → i ≢ set → y.tree i ≡ x.tree i

-- but for a set and these children of it all stands as it did
abbrev pub KeepOthers : List ℕ → ℕ → (ℕ → Place) → (ℕ → Place) → Type 0
KeepOthers children set old new = (k : ℕ) → k ≢ set → has children k ≡ false → new k ≡ old k

-- an inner set, an outer set, and how many ranks there are between them for what is still to
-- come
pub record Gap : Type 0 where
  pub cur : ℕ
  pub out : ℕ
  pub room : ℕ

abbrev pub gap : ℕ → ℕ → ℕ → Gap
gap cur out room = record { cur = cur; out = out; room = room }

-- a tree in which the mates of the two sets of a gap need not stand
pub record IsBroken (n : ℕ) (f : Sets) (load dist : ℕ → ℕ → ℕ) (x : Forest) (g : Gap) : Type 0 where
  pub tops : (i : ℕ) → x.place i ≢ free → (i < 2 * n) × (f.live i ≡ true) × (f.parent i ≡ None)
  pub root_alone : (i j : ℕ) → x.place i ≡ outer → x.place j ≡ outer → IsExposed n f x.mate i →
      IsExposed n f x.mate j → x.tree i ≡ x.tree j → i ≡ j
  pub outer_mate : (i m t : ℕ) → x.place i ≡ outer → i ≢ g.out → IsExit n f x.mate i m t →
      (x.place (f.top t) ≡ inner) × (x.rank (f.top t) < x.rank i) × (x.tree (f.top t) ≡ x.tree i)
  pub inner_pair : (i : ℕ) → x.place i ≡ inner → (m : ℕ) × (t : ℕ) × IsExit n f x.mate i m t
  pub inner_mate : (i m t : ℕ) → x.place i ≡ inner → i ≢ g.cur → IsExit n f x.mate i m t →
      (x.place (f.top t) ≡ outer) × (x.tree (f.top t) ≡ x.tree i)
  pub link_range : (i : ℕ) → x.place i ≡ inner → (x.above i < n) × (x.entry i < n)
  pub link_entry : (i : ℕ) → x.place i ≡ inner → f.top (x.entry i) ≡ i
  pub link_outer : (i : ℕ) → x.place i ≡ inner →
      (x.place (f.top (x.above i)) ≡ outer) × (x.tree (f.top (x.above i)) ≡ x.tree i)
  pub link_rank : (i : ℕ) → x.place i ≡ inner → x.rank (f.top (x.above i)) < x.rank i
  pub link_tight : (i : ℕ) → x.place i ≡ inner →
      load (x.above i) (x.entry i) ≡ dist (x.above i) (x.entry i)
  pub cur_inner : x.place g.cur ≡ inner
  pub out_outer : x.place g.out ≡ outer
  pub room_left : x.rank g.cur + g.room < x.rank g.out
  pub same : x.tree g.cur ≡ x.tree g.out

-- an inner set has given way to its child that the tree enters, and the ranks above it have made
-- room
pub record Opens (x : Forest) (set first room : ℕ) (y : Forest) : Type 0 where
  pub place_set : y.place set ≡ free
  pub place_first : y.place first ≡ inner
  pub place_others : (i : ℕ) → i ≢ set → i ≢ first → y.place i ≡ x.place i
  pub rank_first : y.rank first ≡ x.rank set
  pub rank_low : (i : ℕ) → i ≢ first → x.rank i ≤ x.rank set → y.rank i ≡ x.rank i
  pub rank_high : (i : ℕ) → i ≢ first → x.rank set < x.rank i → y.rank i ≡ x.rank i + room
  pub above_first : y.above first ≡ x.above set
  pub entry_first : y.entry first ≡ x.entry set
  pub link_others : (i : ℕ) → i ≢ first → (y.above i ≡ x.above i) × (y.entry i ≡ x.entry i)
  pub tree_first : y.tree first ≡ x.tree set
  pub tree_others : (i : ℕ) → i ≢ first → y.tree i ≡ x.tree i

-- two children more stand in the tree: one that is paired with the last inner one, and the next
-- around
pub record Walks (x : Forest) (cur o next : ℕ) (join : ℕ × ℕ) (y : Forest) : Type 0 where
  pub mates : (i : ℕ) → y.mate i ≡ x.mate i
  pub place_outer : y.place o ≡ outer
  pub place_inner : y.place next ≡ inner
  pub place_others : (i : ℕ) → i ≢ o → i ≢ next → y.place i ≡ x.place i
  pub rank_outer : y.rank o ≡ x.rank cur + 1
  pub rank_inner : y.rank next ≡ x.rank cur + 2
  pub rank_others : (i : ℕ) → i ≢ o → i ≢ next → y.rank i ≡ x.rank i
  pub above : y.above next ≡ join.0
  pub entry : y.entry next ≡ join.1
  pub link_others : (i : ℕ) → i ≢ next → (y.above i ≡ x.above i) × (y.entry i ≡ x.entry i)
  pub tree_outer : y.tree o ≡ x.tree cur
  pub tree_inner : y.tree next ≡ x.tree cur
  pub tree_others : (i : ℕ) → i ≢ o → i ≢ next → y.tree i ≡ x.tree i
