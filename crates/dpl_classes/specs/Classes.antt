-- Classes of numbers under pairs, and their numbers.
use Rattle.std.specs.Prelude.{◌≡◌, ◌↔◌, ℕ, ◌+◌, ◌<◌, ◌≤◌, List, length, slice_index_or, take, max, fold}
use Rattle.dpl_classes.specs.Chains.{AreLinked}

-- one more than the greatest label of a list, 0 where it is empty
abbrev pub next_label : List ℕ → ℕ
next_label label = fold (λ m l. max m (l + 1)) 0 label

-- classes are numbered from 0 in the order of their least members: no label is more than the next one
pub record IsNumbered (label : List ℕ) (n : ℕ) : Type 0 where
  pub grows : (i : ℕ) → i < length label → slice_index_or label i 0 ≤ next_label (take i label)
  pub count : n ≡ next_label label

-- two numbers below n have one label where a chain of pairs joins them
pub record AreClasses (pairs : List (ℕ × ℕ)) (n : ℕ) (label : List ℕ) (count : ℕ) : Type 0 where
  pub long : length label ≡ n
  pub same : (i j : ℕ) → i < n → j < n →
      (slice_index_or label i 0 ≡ slice_index_or label j 0) ↔ AreLinked pairs i j
  pub numbered : IsNumbered label count
