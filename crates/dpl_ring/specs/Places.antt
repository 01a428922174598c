-- One place of a block.
use Rattle.std.specs.Prelude.{◌≡◌, ℕ, Bool, true, false, List, get_or}
use Rattle.dpl_ring.specs.declared.pair.Pair.{Pair}

abbrev pub pair_at : List Pair → ℕ → Pair
pair_at items i = get_or items i (record { next = 0; prev = 0 })

abbrev pub is_written : List Bool → ℕ → Type 0
is_written filled i = get_or filled i false ≡ true
