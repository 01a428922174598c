-- The corners of primitives, each with the columns of a side that ends there.
use Rattle.std.specs.Prelude.{◌≡◌, ◌⊎◌, ⊤, ℕ, ◌≤◌, ◌<◌, ℤ, ◌<ℤ◌, ◌≤ℤ◌, List, [], ◌∷◌, All, AllPairs, Any, Contains, length, slice_index_or}
use Rattle.dpl_cell.specs.declared.point.Point.{Point}
use Rattle.dpl_cell.specs.declared.layout.Primitive.{Primitive}
use Rattle.dpl_cell.specs.declared.layout.Primitive.TheVariants as prim
use Rattle.dpl_cell.specs.Ranges.{IsInRange}
use Rattle.dpl_tiles.specs.declared.corners.Corner.{Corner}
use Rattle.dpl_list.specs.Order.{Ascends}

-- a corner at row z with the columns from a to b
pub record IsCornerOf (z a b : ℤ) (c : Corner) : Type 0 where
  pub y : c.y ≡ z
  pub left : c.left ≡ a
  pub right : c.right ≡ b

-- columns that hold both ends of a side
pub record SpansSide (left right : ℤ) (p q : Point) : Type 0 where
  pub first_left : left ≤ℤ p.x
  pub first_right : p.x ≤ℤ right
  pub second_left : left ≤ℤ q.x
  pub second_right : q.x ≤ℤ right

-- a corner at row z whose columns hold the side
pub record IsEndOf (p q : Point) (z : ℤ) (c : Corner) : Type 0 where
  pub y : c.y ≡ z
  pub spans : SpansSide c.left c.right p q

-- both ends of the side are in the list
abbrev pub HasSide : List Corner → Point → Point → Type 0
HasSide corners p q = Any (IsEndOf p q p.y) corners × Any (IsEndOf p q q.y) corners

-- so are those of all sides from one point through the list and on to the last
abbrev pub HasSides : List Corner → Point → List Point → Point → Type 0
HasSides corners p [] last = HasSide corners p last
HasSides corners p (q ∷ qs) last = HasSide corners p q × HasSides corners q qs last

-- the ends of the sides of the primitive are in the list; of a box, those of its upright sides
abbrev pub HasCornersOf : List Corner → Primitive → Type 0
HasCornersOf corners (prim.Box r) = Any (IsCornerOf r.y1 r.x1 r.x2) corners ×
    Any (IsCornerOf r.y2 r.x1 r.x2) corners
HasCornersOf corners (prim.Poly []) = ⊤
HasCornersOf corners (prim.Poly (p ∷ ps)) = HasSides corners p ps p

-- what is in the first list is in the second
abbrev pub AreWithin : List Corner → List Corner → Type 0
AreWithin old new = (c : Corner) → Contains old c → Contains new c

-- the ordinates of corners are within the limits
abbrev pub AreInRange : List Corner → Type 0
AreInRange corners = (c : Corner) → Contains corners c → IsInRange c.y

-- the list grew by the corners of the primitive
pub record AddsCorners (p : Primitive) (old new : List Corner) : Type 0 where
  pub kept : AreWithin old new
  pub has : HasCornersOf new p
  pub range : AreInRange old → AreInRange new

-- the list grew by the ends of a side
pub record AddsSide (p q : Point) (old new : List Corner) : Type 0 where
  pub kept : AreWithin old new
  pub has : HasSide new p q
  pub range : AreInRange old → AreInRange new

-- the first is lower, or in the same row and not further right
abbrev pub ComesBefore : Corner → Corner → Type 0
ComesBefore a b = (a.y <ℤ b.y) ⊎ ((a.y ≡ b.y) × (a.left ≤ℤ b.left))

-- the corners of all primitives, the lowest first, and those of one row from the left
pub record AreCorners (prims : List Primitive) (corners : List Corner) : Type 0 where
  pub ordered : AllPairs ComesBefore corners
  pub all : All (HasCornersOf corners) prims
  pub range : AreInRange corners

-- the corners at row z stand from one place to another
pub record AreBetween (corners : List Corner) (z : ℤ) (from to : ℕ) : Type 0 where
  pub order : from ≤ to
  pub from_within : from ≤ length corners
  pub to_within : to ≤ length corners
  pub below : (k : ℕ) (d : Corner) → k < from → (slice_index_or corners k d).y <ℤ z
  pub on : (k : ℕ) (d : Corner) → from ≤ k → k < to → (slice_index_or corners k d).y ≡ z
  pub above : (k : ℕ) (d : Corner) → to ≤ k → k < length corners →
      z <ℤ (slice_index_or corners k d).y

-- all corners at row z, from the left
pub record AreCornersAt (corners : List Corner) (z : ℤ) (row : List Corner) : Type 0 where
  pub ordered : Ascends (λ c. c.left) row
  pub all : (c : Corner) → Contains corners c → c.y ≡ z → Contains row c
