-- Boxes, wires and polygons, in grid units: two of them are a hundredth of a micron (Mead and Conway 1980, section 4.5).
use Rattle.std.specs.Prelude.{ℕ, ℤ, pos, negsuc, ◌+ℤ◌, ◌-ℤ◌, ◌*ℤ◌, int_div, int_rem, ◌≤◌, ◌<◌, ◌^◌, Bool, false, not, ◌&&◌, ◌||◌, ◌==◌, unsigned_abs, List, [], ◌∷◌, if◌then◌else◌}
use Rattle.std.specs.Int.{int_min, int_max}
use Rattle.dpl_rules.specs.declared.command.Spot.{Spot}
use Rattle.dpl_rules.specs.declared.command.BoxForm.{BoxForm}
use Rattle.dpl_rules.specs.declared.command.Scale.{Scale}
use Rattle.dpl_rules.specs.declared.figures.Extent.{Extent}

-- hundredths in grid units
unfoldable pub double : ℤ → ℤ
double z = pos 2 *ℤ z

-- so much left of, or below
unfoldable pub less : ℤ → ℕ → ℤ
less z by = double z -ℤ pos by

-- so much right of, or above
unfoldable pub more : ℤ → ℕ → ℤ
more z by = double z +ℤ pos by

-- the rectangle of this width and height around a centre
abbrev pub around : ℤ → ℕ → ℤ → ℕ → Extent
around x across y along =
    record { x1 = less x across; y1 = less y along; x2 = more x across; y2 = more y along }

-- a direction on the x axis puts the length along x, one on the y axis along y
abbrev pub box_extent : BoxForm → Extent
box_extent b = if unsigned_abs b.direction.y == 0 then around b.centre.x b.length b.centre.y b.width
    else around b.centre.x b.width b.centre.y b.length

-- the least rectangle of two points, wider by half the width on all four sides
abbrev pub leg : ℕ → Spot → Spot → Extent
leg width p q = record {
  x1 = less (int_min p.x q.x) width;
  y1 = less (int_min p.y q.y) width;
  x2 = more (int_max p.x q.x) width;
  y2 = more (int_max p.y q.y) width;
}

abbrev pub legs_from : ℕ → Spot → List Spot → List Extent
legs_from width p [] = []
legs_from width p (q ∷ qs) = leg width p q ∷ legs_from width q qs

-- a wire has a rectangle for each two points in a row; a wire of one point is a square
abbrev pub legs : ℕ → List Spot → List Extent
legs width [] = []
legs width (p ∷ []) = leg width p p ∷ []
legs width (p ∷ q ∷ qs) = legs_from width p (q ∷ qs)

-- a distance times the scale is a whole number
unfoldable pub is_on_grid : Scale → ℤ → Bool
is_on_grid scale z = unsigned_abs (int_rem (z *ℤ pos scale.times) (pos scale.over)) == 0

-- a distance times the scale, which is a whole number where the text breaks no rule
unfoldable pub scaled : Scale → ℤ → ℤ
scaled scale z = int_div (z *ℤ pos scale.times) (pos scale.over)

abbrev pub is_spot_on_grid : Scale → Spot → Bool
is_spot_on_grid scale s = is_on_grid scale (double s.x) && is_on_grid scale (double s.y)

abbrev pub is_extent_on_grid : Scale → Extent → Bool
is_extent_on_grid scale e =
    is_on_grid scale e.x1 && is_on_grid scale e.y1 && is_on_grid scale e.x2 && is_on_grid scale e.y2

abbrev pub eq_z : ℤ → ℤ → Bool
eq_z (pos a) (pos b) = a == b
eq_z (pos a) (negsuc b) = false
eq_z (negsuc a) (pos b) = false
eq_z (negsuc a) (negsuc b) = a == b

-- the points differ in both coordinates
abbrev pub is_slanted : Spot → Spot → Bool
is_slanted p q = not (eq_z p.x q.x) && not (eq_z p.y q.y)

abbrev pub slants_from : Spot → List Spot → Bool
slants_from p [] = false
slants_from p (q ∷ qs) = is_slanted p q || slants_from q qs

-- two points of a wire that follow one another are slanted
abbrev pub slants : List Spot → Bool
slants [] = false
slants (p ∷ ps) = slants_from p ps

abbrev pub last_spot : Spot → List Spot → Spot
last_spot p [] = p
last_spot p (q ∷ qs) = last_spot q qs

-- so are two points of a polygon, its last and first among them
abbrev pub slants_round : List Spot → Bool
slants_round [] = false
slants_round (p ∷ ps) = slants_from p ps || is_slanted (last_spot p ps) p

-- a direction lies on an axis and is not (0, 0)
abbrev pub is_straight : Spot → Bool
is_straight d = not ((unsigned_abs d.x == 0) && (unsigned_abs d.y == 0))
    && ((unsigned_abs d.x == 0) || (unsigned_abs d.y == 0))

-- how far the corners of a command in bounds may lie
pub record IsExtentNear (e : Extent) : Type 0 where
  pub left : unsigned_abs e.x1 ≤ 2 ^ 66
  pub low : unsigned_abs e.y1 ≤ 2 ^ 66
  pub right : unsigned_abs e.x2 ≤ 2 ^ 66
  pub top : unsigned_abs e.y2 ≤ 2 ^ 66

-- a scale that no rule refuses
pub record IsScale (s : Scale) : Type 0 where
  pub some : 0 < s.times
  pub times : s.times ≤ 10 ^ 12
  pub over : 0 < s.over
