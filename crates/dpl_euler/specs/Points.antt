-- Points and segments of the plane. A segment is the set of all means of its two ends (convex combinations: de Berg,
-- Cheong, van Kreveld and Overmars, "Computational Geometry", 2008, chapter 1). The coordinates of ends are whole numbers.
-- So two segments with a point in common have one whose coordinates are fractions.
use Rattle.std.specs.Prelude.{◌≡◌, ℕ, ◌+◌, ◌<◌, ℤ, pos, ◌+ℤ◌, ◌*ℤ◌}

-- a segment by its two ends, which may be one point
pub record Ends : Type 0 where
  pub x1 : ℤ
  pub y1 : ℤ
  pub x2 : ℤ
  pub y2 : ℤ

-- the point (x / over, y / over)
pub record Point : Type 0 where
  pub over : ℕ
  pub some : 0 < over
  pub x : ℤ
  pub y : ℤ

-- the point has these coordinates
pub record IsAt (p : Point) (a b : ℤ) : Type 0 where
  pub x : p.x ≡ pos p.over *ℤ a
  pub y : p.y ≡ pos p.over *ℤ b

-- the point lies on the segment: it is a mean of the two ends, with two weights
pub record IsOn (s : Ends) (p : Point) : Type 0 where
  pub first : ℕ
  pub second : ℕ
  pub some : 0 < first + second
  pub x : pos (first + second) *ℤ p.x ≡ pos p.over *ℤ (pos first *ℤ s.x1 +ℤ pos second *ℤ s.x2)
  pub y : pos (first + second) *ℤ p.y ≡ pos p.over *ℤ (pos first *ℤ s.y1 +ℤ pos second *ℤ s.y2)
