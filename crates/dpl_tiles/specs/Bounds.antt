-- The bounds of primitives, for an index.
use Rattle.std.specs.Prelude.{◌≡◌, ℤ, ◌≤ℤ◌, List, All, ◌++◌, ◌∷◌, []}
use Rattle.std.specs.List.{AllZip}
use Rattle.dpl_index.specs.declared.bounds.Bounds.{Bounds}
use Rattle.dpl_cell.specs.declared.layout.Primitive.{Primitive}
use Rattle.dpl_cell.specs.declared.layout.Primitive.TheVariants as prim

-- the ordinates of all corners lie from low to high
abbrev pub LiesIn : ℤ → ℤ → Primitive → Type 0
LiesIn low high (prim.Box r) = (low ≤ℤ r.y1) × (r.y2 ≤ℤ high)
LiesIn low high (prim.Poly points) = All (λ p. (low ≤ℤ p.y) × (p.y ≤ℤ high)) points

-- the columns of all corners lie from left to right
abbrev pub SpansColumns : ℤ → ℤ → Primitive → Type 0
SpansColumns left right (prim.Box r) = (left ≤ℤ r.x1) × (r.x2 ≤ℤ right)
SpansColumns left right (prim.Poly points) = All (λ p. (left ≤ℤ p.x) × (p.x ≤ℤ right)) points

-- the bounds hold all corners of the primitive
pub record HoldsCorners (p : Primitive) (b : Bounds) : Type 0 where
  pub rows : LiesIn b.low b.high p
  pub columns : SpansColumns b.left b.right p

-- the second list has, for each primitive, bounds that hold its corners
abbrev pub AreBoundsOf : List Primitive → List Bounds → Type 0
AreBoundsOf prims bounds = AllZip HoldsCorners prims bounds

-- the list grew by bounds of the primitive, where that is a polygon
abbrev pub AddsBounds : Primitive → List Bounds → List Bounds → Type 0
AddsBounds (prim.Box r) old new = new ≡ old
AddsBounds (prim.Poly points) old new = (b : Bounds) × HoldsCorners (prim.Poly points) b × (new ≡ old ++ b ∷ [])
