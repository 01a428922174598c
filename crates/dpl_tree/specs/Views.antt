-- What the lists of a stage say.
use Rattle.std.specs.Prelude.{◌≡◌, ℕ, ◌*◌, Bool, true, false, Option, None, List, length}
use Rattle.std.specs.Prelude.{slice_index, slice_index_or}
use Rattle.dpl_tree.specs.declared.tree.Label.{Label}
use Rattle.dpl_tree.specs.declared.tree.Label.TheVariants.{Free, Outer, Inner}
use Rattle.dpl_tree.specs.declared.tree.Tree.{Tree}
use Rattle.dpl_tree.specs.steps.Forests.{Place, free, outer, inner, Forest}

abbrev pub place_of : Label → Place
place_of Free = free
place_of Outer = outer
place_of Inner = inner

abbrev pub same_label : Label → Label → Bool
same_label Free Free = true
same_label Free Outer = false
same_label Free Inner = false
same_label Outer Free = false
same_label Outer Outer = true
same_label Outer Inner = false
same_label Inner Free = false
same_label Inner Outer = false
same_label Inner Inner = true

-- how the set with this number stands in the tree
abbrev pub place_in : List Label → ℕ → Place
place_in labels i = place_of (slice_index_or labels i Free)

abbrev pub mate_in : List (Option ℕ) → ℕ → Option ℕ
mate_in mates m = slice_index_or mates m None

-- the trees that are kept so, with pairs between the tops
abbrev pub forest_of : Tree → List (Option ℕ) → Forest
forest_of tree mates = record {
  mate = mate_in mates;
  place = place_in tree.labels.items;
  rank = slice_index tree.ranks.items;
  above = λ i. (slice_index_or tree.links.items i (0, 0)).0;
  entry = λ i. (slice_index_or tree.links.items i (0, 0)).1;
  tree = slice_index tree.trees.items;
}

-- the lists of a tree have a place for each number
pub record IsSized (n : ℕ) (tree : Tree) : Type 0 where
  pub labels : length tree.labels.items ≡ 2 * n
  pub ranks : length tree.ranks.items ≡ 2 * n
  pub links : length tree.links.items ≡ 2 * n
  pub trees : length tree.trees.items ≡ 2 * n
