-- The cells of one row as stretches.
use Rattle.std.specs.Prelude.{◌≡◌, ℤ, pos, ◌-ℤ◌, ◌≤ℤ◌, List, Bool, true, false, ◌||◌}
use Rattle.dpl_cell.specs.declared.stretch.Stretch.{Stretch}
use Rattle.dpl_cell.specs.Stretches.{is_in_stretches, AreSeparate}

-- the stretches hold the cells of the row, and do not touch
pub record IsRow (cells : ℤ → ℤ → Bool) (y : ℤ) (stretches : List Stretch) : Type 0 where
  pub separate : AreSeparate stretches
  pub same : (x : ℤ) → is_in_stretches stretches x ≡ cells x y

-- the first list grew by stretches that hold these places
abbrev pub AddsPlaces : (ℤ → Bool) → List Stretch → List Stretch → Type 0
AddsPlaces places old new = (x : ℤ) → is_in_stretches new x ≡ (is_in_stretches old x || places x)

-- the columns right beside a window from a to b, a - 1 and b, are no cells of the row
pub record IsFramed (cells : ℤ → ℤ → Bool) (y a b : ℤ) : Type 0 where
  pub some : a ≤ℤ b
  pub left : cells (a -ℤ pos 1) y ≡ false
  pub right : cells b y ≡ false

-- the first list grew by stretches that hold cells of the row alone, and all of them in the window
pub record AddsWithin (cells : ℤ → ℤ → Bool) (y a b : ℤ) (old new : List Stretch) : Type 0 where
  pub kept : (x : ℤ) → is_in_stretches old x ≡ true → is_in_stretches new x ≡ true
  pub sound : (x : ℤ) → is_in_stretches new x ≡ true →
      (is_in_stretches old x || cells x y) ≡ true
  pub full : (x : ℤ) → (a -ℤ pos 1) ≤ℤ x → x ≤ℤ b → cells x y ≡ true →
      is_in_stretches new x ≡ true
