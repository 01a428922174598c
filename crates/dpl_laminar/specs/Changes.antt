-- What the calls on a family change, and what they leave.
use Rattle.std.specs.Prelude.{◌≡◌, ◌≢◌, ℕ, ◌*◌, ◌%◌, ◌<◌, ◌≤◌, ◌==◌, nat_lt, true, false, Some, None, List, [], length, slice_index, slice_index_or}
use Rattle.dpl_laminar.specs.Families.{Sets, IsTie, has, next_in}

-- each member below n alone, and no set with a value
pub record IsSingles (n : ℕ) (f : Sets) : Type 0 where
  pub size : f.size ≡ n
  pub live : (i : ℕ) → i < 2 * n → f.live i ≡ nat_lt i n
  pub holds : (i m : ℕ) → i < 2 * n → m < n → f.holds i m ≡ (i == m)
  pub value : (i : ℕ) → f.value i ≡ 0
  pub parent : (i : ℕ) → f.parent i ≡ None
  pub children : (i : ℕ) → f.children i ≡ []
  pub after : (i : ℕ) → i < 2 * n → f.after i ≡ i
  pub top : (m : ℕ) → m < n → f.top m ≡ m

-- an odd number of tops, at least 3, each once
pub record AreTops (n : ℕ) (f : Sets) (children : List ℕ) : Type 0 where
  pub count_odd : length children % 2 ≡ 1
  pub several : 3 ≤ length children
  pub below : (c : ℕ) → has children c ≡ true → c < 2 * n
  pub are_live : (c : ℕ) → has children c ≡ true → f.live c ≡ true
  pub parentless : (c : ℕ) → has children c ≡ true → f.parent c ≡ None
  pub distinct : (i j : ℕ) → i < j → j < length children →
      slice_index children i ≢ slice_index children j

-- tops that a new set can be made of, with a join from each to the next one around
pub record AreJoined (f : Sets) (children : List ℕ) (joins : List (ℕ × ℕ)) : Type 0 where
  pub tops : AreTops f.size f children
  pub count : length joins ≡ length children
  pub tied : (i : ℕ) → i < length children →
      IsTie f (slice_index children i) (next_in children i) (slice_index_or joins i (0, 0))

-- a new top holds what these tops held
pub record Gathers (n : ℕ) (old : Sets) (children : List ℕ) (set : ℕ) (new : Sets) : Type 0 where
  pub at_least : n ≤ set
  pub below : set < 2 * n
  pub was_free : old.live set ≡ false
  pub live_set : new.live set ≡ true
  pub live_others : (i : ℕ) → i ≢ set → new.live i ≡ old.live i
  pub holds_set : (m : ℕ) → m < n → new.holds set m ≡ has children (old.top m)
  pub holds_others : (i m : ℕ) → i < 2 * n → i ≢ set → m < n → new.holds i m ≡ old.holds i m
  pub parent_child : (i : ℕ) → has children i ≡ true → new.parent i ≡ Some set
  pub parent_others : (i : ℕ) → has children i ≡ false → new.parent i ≡ old.parent i
  pub children_set : new.children set ≡ children
  pub children_others : (i : ℕ) → i ≢ set → new.children i ≡ old.children i
  pub top_inside : (m : ℕ) → m < n → has children (old.top m) ≡ true → new.top m ≡ set
  pub top_others : (m : ℕ) → m < n → has children (old.top m) ≡ false → new.top m ≡ old.top m

-- these tops became the children of a new top, which has a number that was free and value 0
pub record IsShrunk (old : Sets) (children : List ℕ) (joins : List (ℕ × ℕ)) (set : ℕ)
    (new : Sets) : Type 0 where
  pub size : new.size ≡ old.size
  pub value : (i : ℕ) → new.value i ≡ old.value i
  pub value_set : new.value set ≡ 0
  pub sets : Gathers old.size old children set new
  -- the children stand in a ring in their order with these joins
  pub after_child : (i : ℕ) → i < length children →
      new.after (slice_index children i) ≡ next_in children i
  pub after_others : (c : ℕ) → has children c ≡ false → new.after c ≡ old.after c
  pub join_child : (i : ℕ) → i < length children →
      new.join (slice_index children i) ≡ slice_index_or joins i (0, 0)
  pub join_others : (c : ℕ) → has children c ≡ false → new.join c ≡ old.join c

-- the children of a top are tops in its place
pub record Releases (n : ℕ) (old : Sets) (set : ℕ) (new : Sets) : Type 0 where
  pub live_set : new.live set ≡ false
  pub live_others : (i : ℕ) → i ≢ set → new.live i ≡ old.live i
  pub holds_set : (m : ℕ) → m < n → new.holds set m ≡ false
  pub holds_others : (i m : ℕ) → i < 2 * n → i ≢ set → m < n → new.holds i m ≡ old.holds i m
  pub parent_child : (i : ℕ) → has (old.children set) i ≡ true → new.parent i ≡ None
  pub parent_others : (i : ℕ) → has (old.children set) i ≡ false → new.parent i ≡ old.parent i
  pub children_set : new.children set ≡ []
  pub children_others : (i : ℕ) → i ≢ set → new.children i ≡ old.children i
  pub top_inside : (c m : ℕ) → m < n → has (old.children set) c ≡ true → old.holds c m ≡ true →
      new.top m ≡ c
  pub top_others : (m : ℕ) → m < n → old.top m ≢ set → new.top m ≡ old.top m

-- a top was taken away, and its children became tops
pub record IsExpanded (old : Sets) (set : ℕ) (new : Sets) : Type 0 where
  pub size : new.size ≡ old.size
  pub value : (i : ℕ) → new.value i ≡ old.value i
  pub sets : Releases old.size old set new
  pub after_child : (c : ℕ) → has (old.children set) c ≡ true → new.after c ≡ c
  pub after_others : (c : ℕ) → has (old.children set) c ≡ false → new.after c ≡ old.after c
  pub join : (c : ℕ) → new.join c ≡ old.join c

-- the next child around in the ring of the parent, and the pair of members that joins the two
pub record IsNext (f : Sets) (child other : ℕ) (pair : ℕ × ℕ) : Type 0 where
  pub next : (p i : ℕ) → f.parent child ≡ Some p → i < length (f.children p) →
      slice_index (f.children p) i ≡ child →
      other ≡ next_in (f.children p) i
  pub join : pair ≡ f.join child
  pub tie : IsTie f child other pair
