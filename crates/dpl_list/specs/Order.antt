-- Lists in the order of what a key says of their items.
use Rattle.std.specs.Prelude.{ℕ, ◌≤◌, ◌<◌, ℤ, ◌≤ℤ◌, List, length, slice_index_or}

-- what the key says of the items does not fall
abbrev pub Ascends : {X : Type 0} → (X → ℤ) → List X → Type 0
Ascends {X} key xs = (i j : ℕ) (d : X) → i ≤ j → j < length xs →
    key (slice_index_or xs i d) ≤ℤ key (slice_index_or xs j d)
