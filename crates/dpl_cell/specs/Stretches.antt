-- Places as stretches.
use Rattle.std.specs.Prelude.{ℤ, ◌<ℤ◌, List, Bool, AllPairs}
use Rattle.std.specs.List.{list_any}
use Rattle.dpl_cell.specs.declared.stretch.Stretch.{Stretch}
use Rattle.dpl_cell.specs.Layers.{is_within}

-- some stretch holds this place
abbrev pub is_in_stretches : List Stretch → ℤ → Bool
is_in_stretches stretches p = list_any (λ s. is_within s.from s.to p) stretches

-- each stretch leaves a place free before the next
abbrev pub AreSeparate : List Stretch → Type 0
AreSeparate stretches = AllPairs (λ s t. s.to <ℤ t.from) stretches
