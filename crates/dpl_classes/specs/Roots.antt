-- Classes of numbers under pairs, each named by its least member.
use Rattle.std.specs.Prelude.{◌≡◌, ◌↔◌, ℕ, ◌<◌, ◌≤◌, List, length, slice_index_or}
use Rattle.dpl_classes.specs.Chains.{AreLinked}
use Rattle.dpl_classes.specs.Classes.{IsNumbered}

-- each number leads to one that is not greater
abbrev pub Falls : List ℕ → Type 0
Falls ups = (i : ℕ) → i < length ups → slice_index_or ups i 0 ≤ i

-- a number that is led to leads to itself
abbrev pub AreFixed : List ℕ → Type 0
AreFixed roots = (i : ℕ) → i < length roots →
    slice_index_or roots (slice_index_or roots i 0) 0 ≡ slice_index_or roots i 0

-- each number has one and the same member of its class as its root, and no greater one
pub record AreRoots (pairs : List (ℕ × ℕ)) (n : ℕ) (roots : List ℕ) : Type 0 where
  pub long : length roots ≡ n
  pub falls : Falls roots
  pub fixed : AreFixed roots
  pub same : (i j : ℕ) → i < n → j < n →
      (slice_index_or roots i 0 ≡ slice_index_or roots j 0) ↔ AreLinked pairs i j

-- equal labels stand for equal roots, and the classes are numbered in order
pub record AreNumbers (roots label : List ℕ) (count : ℕ) : Type 0 where
  pub long : length label ≡ length roots
  pub same : (i j : ℕ) → i < length roots → j < length roots →
      (slice_index_or label i 0 ≡ slice_index_or label j 0)
      ↔ (slice_index_or roots i 0 ≡ slice_index_or roots j 0)
  pub numbered : IsNumbered label count
