-- What a reading of a layer says of its cells, and the limits of the reader by number.
use Rattle.std.specs.Prelude.{◌≡◌, ℕ, ℤ, Bool}
use Rattle.dpl_cell.specs.Layers.{is_cell}
use Rattle.dpl_cif.specs.Reading.{Reading}
use Rattle.dpl_cif.specs.Reading.Reading.{Faulty, TooMany, TooManyCalls, TooFar, Good}
use Rattle.dpl_cif.specs.declared.error.CifLimit.{CifLimit}
use Rattle.dpl_cif.specs.declared.error.CifLimit.TheVariants.{Primitives, Calls, Coordinate}

-- a layer was read, and its cells have the property
abbrev pub OnCells : Reading → ((ℤ → ℤ → Bool) → Type 0) → Type 0
OnCells (Good parts) P = P (is_cell parts)
OnCells (Faulty f) P = ⊥
OnCells (TooMany n) P = ⊥
OnCells (TooManyCalls n) P = ⊥
OnCells (TooFar n) P = ⊥

-- the limit with this number stopped the reading, with this count: of primitives, of calls, of the greatest coordinate
abbrev pub IsReadLimit : Reading → ℕ → ℕ → Type 0
IsReadLimit (TooMany n) kind count = (kind ≡ 2) × (count ≡ n)
IsReadLimit (TooManyCalls n) kind count = (kind ≡ 3) × (count ≡ n)
IsReadLimit (TooFar n) kind count = (kind ≡ 4) × (count ≡ n)
IsReadLimit (Faulty f) kind count = ⊥
IsReadLimit (Good parts) kind count = ⊥

-- limit 1 is that of bytes, and these come next
abbrev pub limit_number : CifLimit → ℕ
limit_number Primitives = 2
limit_number Calls = 3
limit_number Coordinate = 4
