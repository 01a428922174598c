-- The children of a set around its ring, and what becomes of them when the set gives way to them.
use Rattle.std.specs.Prelude.{◌≡◌, ◌≢◌, ℕ, ◌+◌, ◌*◌, ◌%◌, ◌<◌, ◌≤◌, zero, suc, true, nat_lt}
use Rattle.std.specs.Prelude.{if◌then◌else◌, Option, Some, List, length, slice_index}
use Rattle.std.specs.Prelude.{slice_index_or, slice_set}
use Rattle.dpl_laminar.specs.Families.{Sets, has, next_in}
use Rattle.dpl_tree.specs.declared.tree.Label.{Label}
use Rattle.dpl_tree.specs.declared.tree.Label.TheVariants.{Outer, Inner}
use Rattle.dpl_tree.specs.declared.tree.Tree.{Tree}
use Rattle.dpl_tree.specs.steps.Forests.{Forest, inner}
use Rattle.dpl_tree.specs.Mates.{IsExit, loads}
use Rattle.dpl_tree.specs.Views.{place_in}

-- all children of a set around, each once, with tight joins from each to the next one
pub record IsAround (n : ℕ) (f : Sets) (dist : ℕ → ℕ → ℕ) (set : ℕ) (sets : List ℕ)
    (joins : List (ℕ × ℕ)) : Type 0 where
  pub count : length joins ≡ length sets
  pub odd : length sets % 2 ≡ 1
  pub kids : (i : ℕ) → i < length sets → has (f.children set) (slice_index sets i) ≡ true
  pub all : (c : ℕ) → has (f.children set) c ≡ true →
      (i : ℕ) × (i < length sets) × (slice_index sets i ≡ c)
  pub distinct : (i j : ℕ) → i < j → j < length sets → slice_index sets i ≢ slice_index sets j
  pub from : (i : ℕ) → i < length sets → ((slice_index_or joins i (0, 0)).0 < n) ×
      (f.holds (slice_index sets i) (slice_index_or joins i (0, 0)).0 ≡ true)
  pub to : (i : ℕ) → i < length sets → ((slice_index_or joins i (0, 0)).1 < n) ×
      (f.holds (next_in sets i) (slice_index_or joins i (0, 0)).1 ≡ true)
  pub tight : (i : ℕ) → i < length sets →
      loads n f (slice_index_or joins i (0, 0)).0 (slice_index_or joins i (0, 0)).1 ≡
      dist (slice_index_or joins i (0, 0)).0 (slice_index_or joins i (0, 0)).1

-- the children of a set around, with their joins and the place of the child that keeps the pair
pub record Around : Type 0 where
  pub sets : List ℕ
  pub joins : List (ℕ × ℕ)
  pub place : ℕ

abbrev pub around : List ℕ → List (ℕ × ℕ) → ℕ → Around
around sets joins place = record { sets = sets; joins = joins; place = place }

-- an inner set, its round, and the place of the child that keeps the pair of these two members
pub record IsOpening (n : ℕ) (f : Sets) (dist : ℕ → ℕ → ℕ) (x : Forest) (set : ℕ)
    (r : Around) : Type 0 where
  pub from : ℕ
  pub to : ℕ
  pub above : n ≤ set
  pub is_inner : x.place set ≡ inner
  pub empty : f.value set ≡ 0
  pub ring : IsAround n f dist set r.sets r.joins
  pub even : r.place % 2 ≡ 0
  pub place : r.place < length r.sets
  pub enters : f.holds (slice_index r.sets 0) (x.entry set) ≡ true
  pub leaves : f.holds (slice_index r.sets r.place) from ≡ true
  pub exit : IsExit n f x.mate set from to

-- two members become mates
abbrev pub pair_up : List (Option ℕ) → ℕ × ℕ → List (Option ℕ)
pair_up mates j = slice_set (slice_set mates j.0 (Some j.1)) j.1 (Some j.0)

-- the joins at 0, 2, .. before a place and at 1, 3, .. from there on
abbrev pub join_at : ℕ → ℕ → ℕ
join_at place r = if nat_lt (2 * r) place then 2 * r else 2 * r + 1

-- so many pairs along these joins
abbrev pub paired_times : List (Option ℕ) → List (ℕ × ℕ) → ℕ → ℕ → List (Option ℕ)
paired_times mates joins place zero = mates
paired_times mates joins place (suc r) = pair_up (paired_times mates joins place r)
    (slice_index_or joins (join_at place r) (0, 0))

-- the lists of a tree
pub record Lists : Type 0 where
  pub labels : List Label
  pub ranks : List ℕ
  pub links : List (ℕ × ℕ)
  pub trees : List ℕ

abbrev pub lists_of : Tree → Lists
lists_of tree = record {
  labels = tree.labels.items;
  ranks = tree.ranks.items;
  links = tree.links.items;
  trees = tree.trees.items;
}

abbrev pub forest_in : Lists → (ℕ → Option ℕ) → Forest
forest_in l mate = record {
  mate = mate;
  place = place_in l.labels;
  rank = slice_index l.ranks;
  above = λ i. (slice_index_or l.links i (0, 0)).0;
  entry = λ i. (slice_index_or l.links i (0, 0)).1;
  tree = slice_index l.trees;
}

-- an outer set and the inner one after it are put into the tree behind another one
abbrev pub step_in : Lists → ℕ → ℕ → ℕ → ℕ × ℕ → Lists
step_in l cur out next link = record {
  labels = slice_set (slice_set l.labels out Outer) next Inner;
  ranks = slice_set (slice_set l.ranks out (slice_index l.ranks cur
      + 1)) next (slice_index l.ranks cur + 2);
  links = slice_set l.links next link;
  trees = slice_set (slice_set l.trees out (slice_index l.trees cur)) next (slice_index l.trees cur);
}

-- so many steps along a ring
abbrev pub walked_times : Lists → List ℕ → List (ℕ × ℕ) → ℕ → Lists
walked_times l sets joins zero = l
walked_times l sets joins (suc r) = step_in (walked_times l sets joins r) (slice_index sets (2 * r))
    (slice_index sets (2 * r + 1)) (slice_index sets (2 * r + 2)) (slice_index_or joins (2 * r
    + 1) (0, 0))
