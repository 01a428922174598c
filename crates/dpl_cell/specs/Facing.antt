-- How two rectangles lie to each other: side by side, or off a corner. The eight ports of the first, counterclockwise:
-- 0 south-west, 1 south, 2 south-east, 3 east, 4 north-east, 5 north, 6 north-west, 7 west.
use Rattle.std.specs.Prelude.{◌≡◌, ◌↔◌, ◌⊎◌, ℕ, ◌≤◌, ℤ, ◌<ℤ◌}
use Rattle.dpl_cell.specs.declared.types.Facing.{Facing}
use Rattle.dpl_cell.specs.declared.types.Facing.TheVariants.{Side, Corner}
use Rattle.dpl_cell.specs.Places.{Corners}
use Rattle.dpl_cell.specs.Cells.{IsWithin}
use Rattle.dpl_cell.specs.Gaps.{between, IsBetween}

-- a stretch is what two stretches have in common, which is something
pub record IsCommon (from to a1 a2 b1 b2 : ℤ) : Type 0 where
  pub some : from <ℤ to
  pub each : (k : ℤ) → IsWithin from to k ↔ (IsWithin a1 a2 k × IsWithin b1 b2 k)

-- each place of one stretch stands before each place of the other
abbrev pub IsAhead : ℤ → ℤ → ℤ → ℤ → Type 0
IsAhead a1 a2 b1 b2 = (x y : ℤ) → IsWithin a1 a2 x → IsWithin b1 b2 y → x <ℤ y

-- two stretches have nothing in common, and between them are n places at least
pub record IsDistance (a1 a2 b1 b2 : ℤ) (n : ℕ) : Type 0 where
  pub none : (k : ℤ) → IsWithin a1 a2 k → ¬ IsWithin b1 b2 k
  pub least : (x y : ℤ) → IsWithin a1 a2 x → IsWithin b1 b2 y → n ≤ between x y
  pub attained : IsBetween a1 a2 b1 b2 n

abbrev pub IsLeft : Corners → Corners → Type 0
IsLeft a b = IsAhead a.x1 a.x2 b.x1 b.x2

abbrev pub IsBelow : Corners → Corners → Type 0
IsBelow a b = IsAhead a.y1 a.y2 b.y1 b.y2

-- they share these columns, and b lies below or above
pub record FacesLevel (a b : Corners) (port : ℕ) (from to : ℤ) : Type 0 where
  pub columns : IsCommon from to a.x1 a.x2 b.x1 b.x2
  pub side : ((port ≡ 1) × IsBelow b a) ⊎ ((port ≡ 5) × IsBelow a b)

-- they share these rows, and b lies on the right or on the left
pub record FacesUpright (a b : Corners) (port : ℕ) (from to : ℤ) : Type 0 where
  pub rows : IsCommon from to a.y1 a.y2 b.y1 b.y2
  pub side : ((port ≡ 3) × IsLeft a b) ⊎ ((port ≡ 7) × IsLeft b a)

-- they share no column and no row, and b lies off a corner of a
pub record IsOffCorner (a b : Corners) (port dx dy : ℕ) : Type 0 where
  pub columns : IsDistance a.x1 a.x2 b.x1 b.x2 dx
  pub rows : IsDistance a.y1 a.y2 b.y1 b.y2 dy
  pub corner : ((port ≡ 0) × IsLeft b a × IsBelow b a) ⊎
      (((port ≡ 2) × IsLeft a b × IsBelow b a) ⊎
      (((port ≡ 4) × IsLeft a b × IsBelow a b) ⊎ ((port ≡ 6) × IsLeft b a × IsBelow a b)))

-- b lies so at a
abbrev pub IsFacing : Corners → Corners → Facing → Type 0
IsFacing a b (Side port from to) = FacesLevel a b port from to ⊎ FacesUpright a b port from to
IsFacing a b (Corner port dx dy) = IsOffCorner a b port dx dy
