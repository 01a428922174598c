-- Where the upright sides of a polygon stand that span a row.
use Rattle.std.specs.Prelude.{◌≡◌, ◌⊎◌, true, ◌++◌, Contains, ℕ, ◌+◌, ℤ, pos, ◌-ℤ◌, ◌≤ℤ◌, ◌%◌, ◌==◌, ◌&&◌, List, Bool, ⊤, All, Any, slice_index_or, [], ◌∷◌, sum_by, int_le, if◌then◌else◌, map}
use Rattle.std.specs.Int.{int_min, int_max}
use Rattle.dpl_index.specs.declared.bounds.Bounds.{Bounds}
use Rattle.dpl_cell.specs.declared.layout.Primitive.{Primitive}
use Rattle.dpl_cell.specs.declared.layout.Primitive.TheVariants as prim
use Rattle.dpl_cell.specs.Places.{place_of}
use Rattle.dpl_cell.specs.Ranges.{IsInRange}
use Rattle.dpl_cell.specs.declared.stretch.Stretch.{Stretch}
use Rattle.dpl_cell.specs.Stretches.{is_in_stretches}
use Rattle.dpl_cell.specs.Layers.{is_within, left_sides}
use Rattle.dpl_tiles.specs.declared.side.Side.{Side}

-- how many sides of a polygon span the row at or left of the column
abbrev pub sides_of : ℤ → ℤ → List (ℤ × ℤ) → ℕ
sides_of x y [] = 0
sides_of x y (p ∷ ps) = left_sides x y p ps p

-- the side from p to q
pub record IsSideOf (p q : ℤ × ℤ) (s : Side) : Type 0 where
  pub column : s.column ≡ p.0
  pub low : s.low ≡ int_min p.1 q.1
  pub high : s.high ≡ int_max p.1 q.1

-- the side spans the row at or left of the column
abbrev pub stands : ℤ → ℤ → Side → Bool
stands x y s = int_le s.column x && is_within s.low s.high y

-- how many of the sides do
abbrev pub standing : ℤ → ℤ → List Side → ℕ
standing x y sides = sum_by (λ s. if stands x y s then 1 else 0) sides

-- an odd number of them does: the cells of a polygon with these sides
abbrev pub is_between : List Side → ℤ → ℤ → Bool
is_between sides x y = standing x y sides % 2 == 1

-- all sides of a polygon: as many of them span each row at or left of each column
abbrev pub AreAllSidesOf : List (ℤ × ℤ) → List Side → Type 0
AreAllSidesOf points sides = (x y : ℤ) → standing x y sides ≡ sides_of x y points

-- sides between which the cells of a polygon lie: an odd number of them spans a row at or left of a column where of its own sides does
abbrev pub AreSidesOf : List (ℤ × ℤ) → List Side → Type 0
AreSidesOf points sides = (x y : ℤ) → standing x y sides % 2 ≡ sides_of x y points % 2

-- the sides of a primitive, where it is a polygon
abbrev pub AreSides : Primitive → List Side → Type 0
AreSides (prim.Box r) sides = ⊤
AreSides (prim.Poly points) sides = AreSidesOf (map place_of points) sides

-- the column of a side, and its rows
abbrev pub bounds_of_side : Side → Bounds
bounds_of_side s = record { left = s.column; right = s.column; low = s.low; high = s.high }

-- how many of the numbers are at most x
abbrev pub at_or_left : ℤ → List ℤ → ℕ
at_or_left x zs = sum_by (λ z. if int_le z x then 1 else 0) zs

-- the columns of those of the sides with these numbers that span the row
pub record AreColumnsAmong (sides : List Side) (found : List ℕ) (y : ℤ) (columns : List ℤ) : Type 0 where
  pub each : (x : ℤ) (d : Side) → at_or_left x columns
      ≡ sum_by (λ i. if stands x y (slice_index_or sides i d) then 1 else 0) found
  pub own : All (λ z. Any (λ i. (d : Side) → (slice_index_or sides i d).column ≡ z) found) columns

-- the columns from a to b of the sides that span the row: those behind column a - 1, up to each column there
pub record AreCrossingsWithin (sides : List Side) (y a b : ℤ) (columns : List ℤ) : Type 0 where
  pub range : All IsInRange columns
  pub inside : All (λ z. (a ≤ℤ z) × (z ≤ℤ b)) columns
  pub each : (x : ℤ) → (a -ℤ pos 1) ≤ℤ x → x ≤ℤ b →
      standing x y sides ≡ standing (a -ℤ pos 1) y sides + at_or_left x columns

-- the list grew by the sides of the primitive, where that is a polygon
abbrev pub AddsSidesOf : Primitive → List (List Side) → List (List Side) → Type 0
AddsSidesOf (prim.Box r) old new = new ≡ old
AddsSidesOf (prim.Poly points) old new = (sides : List Side) × AreSidesOf (map place_of points) sides ×
    (new ≡ old ++ sides ∷ [])

-- the first list grew by stretches that hold cells of polygons alone, and in the window all of those with these numbers
pub record AddsBetween (sides : List (List Side)) (found : List ℕ) (y a b : ℤ) (old new : List Stretch) : Type 0 where
  pub kept : (x : ℤ) → is_in_stretches old x ≡ true → is_in_stretches new x ≡ true
  pub sound : (x : ℤ) → is_in_stretches new x ≡ true →
      (is_in_stretches old x ≡ true) ⊎ Any (λ s. is_between s x y ≡ true) sides
  pub full : (x : ℤ) (i : ℕ) → (a -ℤ pos 1) ≤ℤ x → x ≤ℤ b → Contains found i →
      is_between (slice_index_or sides i []) x y ≡ true → is_in_stretches new x ≡ true
