-- Which numbers make a rectangle, a point and the outline of a polygon.
use Rattle.std.specs.Prelude.{ℤ, pos, neg_ℤ, ◌≤ℤ◌, ◌<ℤ◌, Bool, true, ◌&&◌, ◌||◌, List, [], ◌∷◌}
use Rattle.std.specs.Ordering.{int_eq}
use Rattle.dpl_limits.specs.Limits.{most_coordinate}
use Rattle.dpl_cell.specs.Places.{Corners}

-- a coordinate within a little more than a billion grid units of the origin
pub record IsInRange (z : ℤ) : Type 0 where
  pub low : neg_ℤ (pos most_coordinate) ≤ℤ z
  pub high : z ≤ℤ pos most_coordinate

-- columns or rows from a to b, b left out: at least one, and in range
pub record IsStretch (a b : ℤ) : Type 0 where
  pub some : a <ℤ b
  pub low : neg_ℤ (pos most_coordinate) ≤ℤ a
  pub high : b ≤ℤ pos most_coordinate

-- a rectangle with at least one cell, and with its corners in range
pub record IsRectangle (c : Corners) : Type 0 where
  pub columns : IsStretch c.x1 c.x2
  pub rows : IsStretch c.y1 c.y2

-- the side from p to q is level or upright
abbrev pub is_straight : ℤ × ℤ → ℤ × ℤ → Bool
is_straight p q = int_eq p.0 q.0 || int_eq p.1 q.1

-- so is each side from one point through the list and on to the last
abbrev pub are_straight : ℤ × ℤ → List (ℤ × ℤ) → ℤ × ℤ → Bool
are_straight p [] last = is_straight p last
are_straight p (q ∷ qs) last = is_straight p q && are_straight q qs last

-- each side of the polygon is level or upright, the one from its last point to its first among them
abbrev pub has_straight_sides : List (ℤ × ℤ) → Bool
has_straight_sides [] = true
has_straight_sides (p ∷ ps) = are_straight p ps p
