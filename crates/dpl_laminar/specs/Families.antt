-- Families of nested odd sets with values: laminar families with the structure of blossoms, after Edmonds 1965, "Paths,
-- trees, and flowers".
use Rattle.std.specs.Prelude.{◌≡◌, ◌≢◌, ℕ, ◌+◌, ◌*◌, ◌%◌, ◌<◌, ◌≤◌, ◌==◌, ◌^◌, ◌++◌, zero, suc, Bool, true, false, if◌then◌else◌, Option, Some, None, option_and_then, List, [], ◌∷◌, length, slice_index}
use Rattle.std.specs.List.{list_any}
use Rattle.dpl_laminar.specs.declared.TheConstants.{MOST_MEMBERS}
use Rattle.dpl_laminar.specs.Loads.{sum_below, size_of, load_in}

-- A family over the members below its size. Its sets have numbers below twice the size, and the numbers below the size
-- are those of the single members. What stands at a number without a set means nothing.
pub record Sets : Type 0 where
  pub size : ℕ
  -- whether a number has a set
  pub live : ℕ → Bool
  -- whether a set holds a member
  pub holds : ℕ → ℕ → Bool
  pub value : ℕ → ℕ
  -- the set whose child a set is: none at a top
  pub parent : ℕ → Option ℕ
  -- the children of a set in the order of their ring
  pub children : ℕ → List ℕ
  -- the next child around
  pub after : ℕ → ℕ
  -- the pair of members that joins a child to the next one around
  pub join : ℕ → ℕ × ℕ
  -- the top that holds a member
  pub top : ℕ → ℕ

-- the sum of the values of the sets that hold exactly one of s and t
abbrev pub load_of : Sets → ℕ → ℕ → ℕ
load_of f s t = load_in (2 * f.size) f.value f.holds s t

-- the members below n that a set holds, ascending
abbrev pub members_below : ℕ → (ℕ → Bool) → List ℕ
members_below zero set = []
members_below (suc n) set = members_below n set ++ (if set n then n ∷ [] else [])

-- the members of a set, ascending
abbrev pub members_of : Sets → ℕ → List ℕ
members_of f i = members_below f.size (f.holds i)

-- a number stands in a list
abbrev pub has : List ℕ → ℕ → Bool
has numbers x = list_any (λ y. y == x) numbers

-- the pair has a member of the set c and one of the set d
pub record IsTie (f : Sets) (c d : ℕ) (pair : ℕ × ℕ) : Type 0 where
  pub from_range : pair.0 < f.size
  pub from : f.holds c pair.0 ≡ true
  pub to_range : pair.1 < f.size
  pub to : f.holds d pair.1 ≡ true

-- odd sets of the members below n, each two nested or without a common member
pub record AreOddSets (n : ℕ) (f : Sets) : Type 0 where
  -- the single members
  pub single_live : (i : ℕ) → i < n → f.live i ≡ true
  pub single : (i m : ℕ) → i < n → m < n → f.holds i m ≡ (i == m)
  -- a number without a set holds nothing
  pub dead : (i m : ℕ) → i < 2 * n → m < n → f.live i ≡ false → f.holds i m ≡ false
  pub odd : (i : ℕ) → i < 2 * n → f.live i ≡ true → size_of n (f.holds i) % 2 ≡ 1
  -- of two sets with a common member one holds all members of the other
  pub nested : (i j m a b : ℕ) → i < 2 * n → j < 2 * n → m < n → a < n → b < n →
      f.holds i m ≡ true → f.holds j m ≡ true →
      f.holds i a ≡ true → f.holds j a ≡ false → f.holds j b ≡ true → f.holds i b ≡ true
  -- how numbers are given out: the number of a set leads to a member of it that is not its least
  pub named : (i : ℕ) → i < n → f.live (n + i) ≡ true →
      (f.holds (n + i) i ≡ true) × ((a : ℕ) × (a < i) × (f.holds (n + i) a ≡ true))

-- each member has one top: the live set without a parent that holds it
pub record HaveTops (n : ℕ) (f : Sets) : Type 0 where
  pub top_range : (m : ℕ) → m < n → f.top m < 2 * n
  pub top_live : (m : ℕ) → m < n → f.live (f.top m) ≡ true
  pub top_holds : (m : ℕ) → m < n → f.holds (f.top m) m ≡ true
  pub top_parent : (m : ℕ) → m < n → f.parent (f.top m) ≡ None
  pub top_alone : (i m : ℕ) → i < 2 * n → m < n → f.parent i ≡ None → f.holds i m ≡ true →
      f.top m ≡ i
  -- the members of a set have one top
  pub top_shared : (i m a : ℕ) → i < 2 * n → m < n → a < n → f.holds i m ≡ true →
      f.holds i a ≡ true → f.top m ≡ f.top a

-- each set that is no single is the union of its children, which are an odd number and have no common members
pub record HaveChildren (n : ℕ) (f : Sets) : Type 0 where
  -- the children of a set are those whose parent it is
  pub dead_parent : (i : ℕ) → i < 2 * n → f.live i ≡ false → f.parent i ≡ None
  pub parent_range : (i p : ℕ) → i < 2 * n → f.live i ≡ true → f.parent i ≡ Some p →
      (n ≤ p) × (p < 2 * n) × (f.live p ≡ true) × (has (f.children p) i ≡ true)
  pub child : (p c : ℕ) → p < 2 * n → has (f.children p) c ≡ true →
      (c < 2 * n) × (f.live c ≡ true) × (f.parent c ≡ Some p)
  -- the union
  pub child_holds : (p c m : ℕ) → p < 2 * n → m < n → has (f.children p) c ≡ true →
      f.holds c m ≡ true → f.holds p m ≡ true
  pub covered : (p m : ℕ) → n ≤ p → p < 2 * n → m < n → f.holds p m ≡ true →
      (c : ℕ) × (has (f.children p) c ≡ true) × (f.holds c m ≡ true)
  pub apart : (p c d m : ℕ) → p < 2 * n → m < n → has (f.children p) c ≡ true →
      has (f.children p) d ≡ true →
      f.holds c m ≡ true → f.holds d m ≡ true → c ≡ d
  -- a set that meets a child and does not hold the whole parent lies in the child
  pub between : (p c i m a b : ℕ) → p < 2 * n → i < 2 * n → m < n → a < n → b < n →
      has (f.children p) c ≡ true →
      f.holds c m ≡ true → f.holds i m ≡ true → f.holds p a ≡ true → f.holds i a ≡ false →
      f.holds i b ≡ true → f.holds c b ≡ true
  -- each child stands once, and singles and numbers without a set have none
  pub distinct : (p i j : ℕ) → p < 2 * n → i < j → j < length (f.children p) →
      slice_index (f.children p) i ≢ slice_index (f.children p) j
  pub childless : (i : ℕ) → i < n → length (f.children i) ≡ 0
  pub children_odd : (i : ℕ) → i < n → f.live (n + i) ≡ true →
      (length (f.children (n + i)) % 2 ≡ 1) × (3 ≤ length (f.children (n + i)))
  pub children_dead : (i : ℕ) → i < n → f.live (n + i) ≡ false → length (f.children (n + i)) ≡ 0

-- a laminar family with its tops and children
pub record IsLaminar (n : ℕ) (f : Sets) : Type 0 where
  pub sets : AreOddSets n f
  pub tops : HaveTops n f
  pub children : HaveChildren n f

-- the number that follows place i of a list around: after the last one comes the first
abbrev pub next_in : List ℕ → ℕ → ℕ
next_in numbers i = slice_index numbers ((i + 1) % length numbers)

-- what every family keeps
pub record IsFamily (f : Sets) : Type 0 where
  pub small : f.size ≤ MOST_MEMBERS
  pub laminar : IsLaminar f.size f
  -- the children of a set stand in a ring in their order, and each other number alone
  pub around : (p i : ℕ) → i < length (f.children p) →
      f.after (slice_index (f.children p) i) ≡ next_in (f.children p) i
  pub alone : (i : ℕ) → i < 2 * f.size → f.parent i ≡ None → f.after i ≡ i
  -- the join of a child leads from a member of it to one of the next child around
  pub tied : (c p : ℕ) → f.parent c ≡ Some p → IsTie f c (f.after c) (f.join c)
  pub value_small : (i : ℕ) → f.value i ≤ 2 ^ 50
  pub value_dead : (i : ℕ) → f.live i ≡ false → f.value i ≡ 0

-- the sum of all values
abbrev pub total_of : Sets → ℕ
total_of f = sum_below (2 * f.size) f.value

-- where so many parents lead to from the single member m
abbrev pub climb : Sets → ℕ → ℕ → Option ℕ
climb f m zero = Some m
climb f m (suc count) = option_and_then f.parent (climb f m count)

-- each set is reached by parents from each of its members, in fewer steps than it has members
abbrev pub AreReached : Sets → Type 0
AreReached f = (i m : ℕ) → i < 2 * f.size → m < f.size → f.live i ≡ true → f.holds i m ≡ true →
    (count : ℕ) × (count < size_of f.size (f.holds i)) × (climb f m count ≡ Some i)
