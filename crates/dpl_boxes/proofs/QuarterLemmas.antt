-- A box line in quarters of a hundredth gives back its rectangle.
use Rattle.std.proofs.Common.{arith, ◌≡◌, ◌<◌, true, refl}
use Rattle.std.specs.Prelude.{ℤ, pos, ◌<ℤ◌, ◌+ℤ◌, ◌-ℤ◌, ◌*ℤ◌, unsigned_abs, int_div, int_rem}
use Rattle.std.proofs.lemmas.Int.{ints, quot-rem, rem_below}
use Rattle.dpl_cell.specs.Places.{Corners}
use Rattle.dpl_cell.specs.Ranges.{IsRectangle}
use Rattle.dpl_rules.specs.declared.figures.Extent.{Extent}
use Rattle.dpl_rules.specs.Figures.{double, less, more, is_on_grid, scaled, is_extent_on_grid, box_extent}
use Rattle.dpl_calls.specs.Put.{scaled_extent}
use Rattle.dpl_boxes.specs.MaskLines.{quarters, box_form}

quarter : (x : ℤ) → (int_rem ((pos 4 *ℤ x) *ℤ pos 1) (pos 4) ≡ pos 0) × (int_div ((pos 4 *ℤ x) *ℤ pos 1) (pos 4) ≡ x)
quarter x =
    let a : ℤ = (pos 4 *ℤ x) *ℤ pos 1 in
    let whole : int_div a (pos 4) *ℤ pos 4 +ℤ int_rem a (pos 4) ≡ a = quot-rem a (pos 4) in
    let small : unsigned_abs (int_rem a (pos 4)) < 4 = rem_below a (pos 4) (omega arith) in
    (omega (arith, ints), omega (arith, ints))

is_on_grid-quarter : (x : ℤ) → is_on_grid quarters (pos 4 *ℤ x) ≡ true
unfolding is_on_grid
is_on_grid-quarter x = rw ((quarter x).0) refl

scaled-quarter : (x : ℤ) → scaled quarters (pos 4 *ℤ x) ≡ x
unfolding scaled
scaled-quarter x = (quarter x).1

less-middle : (a b : ℤ) → a <ℤ b → less (a +ℤ b) (unsigned_abs ((b -ℤ a) *ℤ pos 2)) ≡ pos 4 *ℤ a
unfolding less double
less-middle a b h = omega (arith, ints)

more-middle : (a b : ℤ) → a <ℤ b → more (a +ℤ b) (unsigned_abs ((b -ℤ a) *ℤ pos 2)) ≡ pos 4 *ℤ b
unfolding more double
more-middle a b h = omega (arith, ints)

abbrev pub extent_of : Corners → Extent
extent_of b = record { x1 = b.x1; y1 = b.y1; x2 = b.x2; y2 = b.y2 }

-- its corners are whole numbers of grid units
pub box_is_on_grid : (b : Corners) → IsRectangle b → is_extent_on_grid quarters (box_extent (box_form b)) ≡ true
box_is_on_grid b r = rw (
  less-middle b.x1 b.x2 r.columns.some,
  less-middle b.y1 b.y2 r.rows.some,
  more-middle b.x1 b.x2 r.columns.some,
  more-middle b.y1 b.y2 r.rows.some,
  is_on_grid-quarter b.x1,
  is_on_grid-quarter b.y1,
  is_on_grid-quarter b.x2,
  is_on_grid-quarter b.y2,
) refl

-- they are the rectangle's
pub scaled_extent-box : (b : Corners) → IsRectangle b → scaled_extent quarters (box_extent (box_form b)) ≡ extent_of b
scaled_extent-box b r = rw (
  less-middle b.x1 b.x2 r.columns.some,
  less-middle b.y1 b.y2 r.rows.some,
  more-middle b.x1 b.x2 r.columns.some,
  more-middle b.y1 b.y2 r.rows.some,
  scaled-quarter b.x1,
  scaled-quarter b.y1,
  scaled-quarter b.x2,
  scaled-quarter b.y2,
) refl
