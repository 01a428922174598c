-- How a family is kept: lists by the numbers of the sets, and one permutation for the rings of all sets.
use Rattle.std.specs.Prelude.{◌≡◌, ◌≢◌, ℕ, ◌+◌, ◌*◌, ◌%◌, ◌<◌, zero, suc, Bool, true, false, Option, None, List, [], ◌∷◌, length, slice_index, slice_index_or}
use Rattle.std.specs.List.Sorted.{IsStrictlyIncreasing}
use Rattle.dpl_laminar.specs.Families.{Sets, IsFamily, has}

-- the lists
pub record Stored : Type 0 where
  pub size : ℕ
  pub live : List Bool
  -- the members of each set, ascending
  pub rows : List (List ℕ)
  pub values : List ℕ
  pub parents : List (Option ℕ)
  -- one child of each set, and how many it has
  pub firsts : List ℕ
  pub counts : List ℕ
  -- by the children: the next one around, and the pair of members that joins the two
  pub ring : List ℕ
  pub joins : List (ℕ × ℕ)
  -- by the members
  pub tops : List ℕ

-- so many numbers, each the next after the one before it
abbrev pub walk : (ℕ → ℕ) → ℕ → ℕ → List ℕ
walk after first zero = []
walk after first (suc count) = first ∷ walk after (after first) count

-- the same along a permutation that is kept as a list
abbrev pub circle_of : List ℕ → ℕ → ℕ → List ℕ
circle_of ring first count = walk (slice_index ring) first count

-- a set holds a member, where each set has a row of its members
abbrev pub row_holds : List (List ℕ) → ℕ → ℕ → Bool
row_holds rows i m = has (slice_index_or rows i []) m

-- the family that is kept so
abbrev pub sets_of : Stored → Sets
sets_of s = record {
  size = s.size;
  live = λ i. slice_index_or s.live i false;
  holds = row_holds s.rows;
  value = slice_index s.values;
  parent = λ i. slice_index_or s.parents i None;
  children = λ i. circle_of s.ring (slice_index s.firsts i) (slice_index s.counts i);
  after = slice_index s.ring;
  join = λ i. slice_index_or s.joins i (0, 0);
  top = slice_index s.tops;
}

-- numbers below a bound
abbrev pub AreBelow : List ℕ → ℕ → Type 0
AreBelow numbers bound = (i : ℕ) → i < length numbers → slice_index numbers i < bound

-- members below n, ascending
pub record IsRow (n : ℕ) (row : List ℕ) : Type 0 where
  pub rising : IsStrictlyIncreasing row
  pub below : AreBelow row n

-- the members of each set, ascending
abbrev pub AreRows : ℕ → List (List ℕ) → Type 0
AreRows n rows = (i : ℕ) → IsRow n (slice_index_or rows i [])

-- what the lists of every family keep
pub record IsKept (s : Stored) : Type 0 where
  pub live_length : length s.live ≡ 2 * s.size
  pub rows_length : length s.rows ≡ 2 * s.size
  pub values_length : length s.values ≡ 2 * s.size
  pub parents_length : length s.parents ≡ 2 * s.size
  pub firsts_length : length s.firsts ≡ 2 * s.size
  pub counts_length : length s.counts ≡ 2 * s.size
  pub ring_length : length s.ring ≡ 2 * s.size
  pub joins_length : length s.joins ≡ 2 * s.size
  pub tops_length : length s.tops ≡ s.size
  pub row_dead : (i : ℕ) → slice_index_or s.live i false ≡ false → slice_index_or s.rows i [] ≡ []
  pub rows_are : AreRows s.size s.rows
  pub family : IsFamily (sets_of s)

-- so many numbers from the first on are places of the list, all different, and the last one leads to the first
pub record IsCircle (ring : List ℕ) (first count : ℕ) : Type 0 where
  pub below : (i : ℕ) → i < count → slice_index (circle_of ring first count) i < length ring
  pub distinct : (i j : ℕ) → i < j → j < count →
      slice_index (circle_of ring first count) i ≢ slice_index (circle_of ring first count) j
  pub around : (i : ℕ) → i < count →
      slice_index ring (slice_index (circle_of ring first count) i)
      ≡ slice_index (circle_of ring first count) ((i + 1) % count)

-- numbers that stand once
abbrev pub AreOnce : List ℕ → Type 0
AreOnce numbers = (i j : ℕ) → i < j → j < length numbers →
    slice_index numbers i ≢ slice_index numbers j

-- no two of these sets have a common member below n
abbrev pub AreApart : ℕ → List (List ℕ) → List ℕ → Type 0
AreApart n rows sets = (c d m : ℕ) → m < n → has sets c ≡ true → has sets d ≡ true →
    row_holds rows c m ≡ true → row_holds rows d m ≡ true → c ≡ d

-- q is the least member of the set x and more than a member of the set y
pub record IsNameOf (n : ℕ) (holds : ℕ → ℕ → Bool) (q x y : ℕ) : Type 0 where
  pub below : q < n
  pub held : holds x q ≡ true
  pub least : (m : ℕ) → m < q → holds x m ≡ false
  pub less : (a : ℕ) × (a < q) × (holds y a ≡ true)
