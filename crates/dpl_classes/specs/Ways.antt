-- Ways up from number to number, each number to one that is not greater, as they are made shorter.
use Rattle.std.specs.Prelude.{◌≡◌, ℕ, ◌<◌, List, length, slice_index_or}
use Rattle.dpl_classes.specs.Roots.{Falls, AreRoots}

-- where the way up from each number ends
pub record AreTops (ups tops : List ℕ) : Type 0 where
  pub long : length tops ≡ length ups
  pub falls : Falls ups
  pub same : (i : ℕ) → i < length ups →
      slice_index_or tops (slice_index_or ups i 0) 0 ≡ slice_index_or tops i 0
  pub ends : (i : ℕ) → i < length ups → slice_index_or ups i 0 ≡ i → slice_index_or tops i 0 ≡ i

-- the ways end at the roots of the classes
pub record IsUnited (pairs : List (ℕ × ℕ)) (n : ℕ) (ups : List ℕ) : Type 0 where
  pub tops : List ℕ
  pub are : AreTops ups tops
  pub roots : AreRoots pairs n tops
