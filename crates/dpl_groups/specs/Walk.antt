-- A walk in depth over a graph.
use Rattle.std.specs.Prelude.{ℕ, Bool, true, false, ◌<◌, ◌≤◌, ◌≡◌, ◌≢◌, ◌+◌, ◌-◌, ◌*◌, ◌⊎◌, ◌==◌, ◌&&◌, nat_lt, nat_le, List, length, take, sum_by, if◌then◌else◌}
use Rattle.std.proofs.Math.ListN.{get_or}
use Rattle.dpl_groups.specs.Graph.{Graph, next_of, IsEdge, Reaches}
use Rattle.dpl_groups.specs.declared.walk.Mark.{Mark}
use Rattle.dpl_groups.specs.declared.walk.Mark.TheVariants.{New, Open, Done}
use Rattle.dpl_groups.specs.declared.walk.Walk.{Walk}

-- Where a walk stands. `mark` says of a node that it is new, open at a place of the path, or done in a group.
-- `left` is how many of its last edges have not been looked at. `start` is where a group begins on the path.
-- `stack` has the places of the path whose edges are being looked at. `head` is a node of a group that is done.
pub record View : Type 0 where
  pub size : ℕ
  pub mark : ℕ → Mark
  pub lefts : ℕ
  pub left : ℕ → ℕ
  pub depth : ℕ
  pub path : ℕ → ℕ
  pub tops : ℕ
  pub start : ℕ → ℕ
  pub height : ℕ
  pub stack : ℕ → ℕ
  pub count : ℕ
  pub head : ℕ → ℕ

unfoldable pub view : Walk → View
view w = record {
  size = length w.marks.items;
  mark = λ x. get_or w.marks.items x New;
  lefts = length w.left.items;
  left = λ x. get_or w.left.items x 0;
  depth = length w.path.items;
  path = λ i. get_or w.path.items i 0;
  tops = length w.starts.items;
  start = λ t. get_or w.starts.items t 0;
  height = length w.stack.items;
  stack = λ t. get_or w.stack.items t 0;
  count = length w.heads.items;
  head = λ l. get_or w.heads.items l 0;
}

-- no group begins behind place j and up to place i
abbrev pub NoStart : View → ℕ → ℕ → Type 0
NoStart v j i = (t : ℕ) → t < v.tops → j < v.start t → v.start t ≤ i → ⊥

pub record IsDone (v : View) (y most : ℕ) : Type 0 where
  pub label : ℕ
  pub done : v.mark y ≡ Done label
  pub low : label ≤ most

-- an edge from place i of the path to y has been taken into account: y is done, or open in the same group or a later one
pub record IsOpenFrom (v : View) (y i : ℕ) : Type 0 where
  pub at : ℕ
  pub here : v.mark y ≡ Open at
  pub later : NoStart v at i

abbrev pub IsSettled : View → ℕ → ℕ → Type 0
IsSettled v i y = IsDone v y v.count ⊎ IsOpenFrom v y i

pub record IsOnStack (v : View) (i : ℕ) : Type 0 where
  pub t : ℕ
  pub within : t < v.height
  pub there : v.stack t ≡ i

-- What a walk keeps true.
pub record IsWalk (g : Graph) (v : View) : Type 0 where
  pub size : v.size ≡ length g
  pub lefts : v.lefts ≡ length g
  pub few : (x : ℕ) → v.left x ≤ length (next_of g x)
  pub fresh : (x : ℕ) → v.mark x ≡ New → v.left x ≡ length (next_of g x)
  pub node : (i : ℕ) → i < v.depth → v.path i < length g
  pub here : (i : ℕ) → i < v.depth → v.mark (v.path i) ≡ Open i
  pub onpath : (x i : ℕ) → v.mark x ≡ Open i → i < v.depth
  pub itself : (x i : ℕ) → v.mark x ≡ Open i → v.path i ≡ x
  pub upward : (i j : ℕ) → i ≤ j → j < v.depth → Reaches g (v.path i) (v.path j)
  pub back : (i j : ℕ) → i ≤ j → j < v.depth → NoStart v i j → Reaches g (v.path j) (v.path i)
  pub first : (i : ℕ) → i < v.depth → 0 < v.tops
  pub lowest : 0 < v.tops → v.start 0 ≡ 0
  pub rising : (t u : ℕ) → t < u → u < v.tops → v.start t < v.start u
  pub begun : (t : ℕ) → t < v.tops → IsOnStack v (v.start t)
  pub climbing : (t u : ℕ) → t < u → u < v.height → v.stack t < v.stack u
  pub placed : (t : ℕ) → t < v.height → v.stack t < v.depth
  pub busy : (i : ℕ) → i < v.depth → IsOnStack v i ⊎ (v.left (v.path i) ≡ 0)
  pub settled : (x i k : ℕ) → v.mark x ≡ Open i → k + v.left x < length (next_of g x) →
      IsSettled v i (get_or (next_of g x) k 0)
  pub downward : (x l k : ℕ) → v.mark x ≡ Done l → k < length (next_of g x) →
      IsDone v (get_or (next_of g x) k 0) l
  pub joined : (x y l : ℕ) → v.mark x ≡ Done l → v.mark y ≡ Done l → Reaches g x y
  pub numbered : (x l : ℕ) → v.mark x ≡ Done l → l < v.count
  pub headed : (l : ℕ) → l < v.count → v.head l < length g
  pub own : (l : ℕ) → l < v.count → v.mark (v.head l) ≡ Done l

-- the top of the stack has an edge to y, or nothing is open
pub record IsTopEdge (g : Graph) (v : View) (y : ℕ) : Type 0 where
  pub some : 0 < v.height
  pub edge : IsEdge g (v.path (v.stack (v.height - 1))) y

abbrev pub Comes : Graph → View → ℕ → Type 0
Comes g v y = (v.height ≡ 0) ⊎ IsTopEdge g v y

-- a function with another value at x
abbrev pub set_at : {A : Type 0} → (ℕ → A) → ℕ → A → ℕ → A
set_at f x a z = if z == x then a else f z

-- a function of which only the values below n are kept
abbrev pub below : (ℕ → ℕ) → ℕ → ℕ → ℕ
below f n i = if nat_lt i n then f i else 0

-- y is opened: it is a group of its own at the end of the path
abbrev pub opened : View → ℕ → View
opened v y = record v {
  mark = set_at v.mark y (Open v.depth);
  depth = v.depth + 1;
  path = set_at v.path v.depth y;
  tops = v.tops + 1;
  start = set_at v.start v.tops v.depth;
  height = v.height + 1;
  stack = set_at v.stack v.height v.depth;
}

-- the groups that begin behind place j are merged into the one before, so that m groups are left
pub record IsMerge (v : View) (j m : ℕ) : Type 0 where
  pub fewer : m ≤ v.tops
  pub kept : (t : ℕ) → t < m → v.start t ≤ j
  pub merged : (t : ℕ) → m ≤ t → t < v.tops → j < v.start t

abbrev pub merged : View → ℕ → View
merged v m = record v { tops = m; start = below v.start m }

-- one more edge of the node x has been looked at
abbrev pub looked : View → ℕ → View
looked v x = record v { left = set_at v.left x (v.left x - 1) }

-- the top of the stack is left
abbrev pub popped : View → View
popped v = record v { height = v.height - 1; stack = below v.stack (v.height - 1) }

-- what was open from place i on is done in group l
abbrev pub shut : ℕ → ℕ → Mark → Mark
shut i l New = New
shut i l (Open k) = if nat_le i k then Done l else Open k
shut i l (Done m) = Done m

-- the top of the stack is left, and its group, which begins at place i, is done
abbrev pub closed : View → ℕ → View
closed v i = record v {
  mark = λ x. shut i v.count (v.mark x);
  depth = i;
  path = below v.path i;
  tops = v.tops - 1;
  start = below v.start (v.tops - 1);
  height = v.height - 1;
  stack = below v.stack (v.height - 1);
  count = v.count + 1;
  head = set_at v.head v.count (v.path i);
}

-- the same up to place n alone
abbrev pub shut_up_to : ℕ → ℕ → ℕ → Mark → Mark
shut_up_to i n l New = New
shut_up_to i n l (Open k) = if nat_le i k && nat_lt k n then Done l else Open k
shut_up_to i n l (Done m) = Done m

-- these marks tell which nodes are on this path
pub record AreOnPath (marks : List Mark) (path : List ℕ) : Type 0 where
  pub node : (i : ℕ) → i < length path → get_or path i 0 < length marks
  pub here : (i : ℕ) → i < length path → get_or marks (get_or path i 0) New ≡ Open i
  pub onpath : (x i : ℕ) → get_or marks x New ≡ Open i → i < length path
  pub itself : (x i : ℕ) → get_or marks x New ≡ Open i → get_or path i 0 ≡ x

-- the last items, which are greater than n, are gone
pub record DropsAbove (n : ℕ) (before after : List ℕ) : Type 0 where
  pub fewer : length after ≤ length before
  pub front : after ≡ take (length after) before
  pub gone : (t : ℕ) → length after ≤ t → t < length before → n < get_or before t 0
  pub last : 0 < length after → get_or after (length after - 1) 0 ≤ n

-- the groups behind place j were merged
pub record AreMerged (v w : View) (j : ℕ) : Type 0 where
  pub m : ℕ
  pub merge : IsMerge v j m
  pub same : w ≡ merged v m

-- how much is left to do: each edge counts two, and each place on the stack one
unfoldable pub work : Walk → ℕ
work w = 2 * sum_by (λ n. n) w.left.items + length w.stack.items

-- what was seen stays so
abbrev pub StaySeen : View → View → Type 0
StaySeen v w = (x : ℕ) → v.mark x ≢ New → w.mark x ≢ New

-- each group begins behind the one before
abbrev pub Rises : View → Type 0
Rises v = (t u : ℕ) → t < u → u < v.tops → v.start t < v.start u

-- this place of the path is the top of the stack
pub record IsTop (v : View) (i : ℕ) : Type 0 where
  pub busy : 0 < v.height
  pub top : v.stack (v.height - 1) ≡ i

-- so is the place of this node
pub record IsTopNode (v : View) (x : ℕ) : Type 0 where
  pub busy : 0 < v.height
  pub node : v.path (v.stack (v.height - 1)) ≡ x

-- the last group begins at this place
abbrev pub begins_at : View → ℕ → Bool
begins_at v i = nat_lt 0 v.tops && (v.start (v.tops - 1) == i)

-- An edge from the top of the stack to y is taken into account. Nothing else changes but the groups of the path, and at most one node is opened.
pub record Settles (g : Graph) (v w : View) (x y : ℕ) : Type 0 where
  pub walk : IsWalk g w
  pub at : ℕ
  pub still : w.mark x ≡ Open at
  pub settled : IsSettled w at y
  pub left : w.left ≡ v.left
  pub size : w.size ≡ v.size
  pub height : w.height ≤ v.height + 1
  pub seen : StaySeen v w

-- each node is done
abbrev pub AreDone : List Mark → Type 0
AreDone marks = (x : ℕ) → x < length marks → (l : ℕ) × (get_or marks x New ≡ Done l)

-- the number in a mark
abbrev pub label_of : Mark → ℕ
label_of New = 0
label_of (Open i) = 0
label_of (Done l) = l

-- nothing is known
abbrev pub is_new_mark : Mark → Bool
is_new_mark New = true
is_new_mark (Open i) = false
is_new_mark (Done l) = false
