-- One of eight turns, and a shift.
use Rattle.std.specs.Prelude.{ℕ, ◌≤◌, ◌^◌, ℤ, ◌+ℤ◌, neg_ℤ, Bool, true, false, not, unsigned_abs, if◌then◌else◌}
use Rattle.dpl_calls.specs.declared.figure.Corner.{Corner}
use Rattle.dpl_calls.specs.declared.placement.Placement.{Placement}
use Rattle.dpl_calls.specs.Parts.{corner}

unfoldable pub signed : Bool → ℤ → ℤ
signed b z = if b then neg_ℤ z else z

-- one of two, not both
abbrev pub other : Bool → Bool → Bool
other true b = not b
other false b = b

-- where a placement puts a point: the coordinates are exchanged, then negated, then shifted
abbrev pub apply : Placement → Corner → Corner
apply p c = corner (signed p.negate_x (if p.swap then c.y
    else c.x) +ℤ p.x) (signed p.negate_y (if p.swap then c.x else c.y) +ℤ p.y)

-- the shift goes no farther
pub record IsNear (n : ℕ) (p : Placement) : Type 0 where
  pub x : unsigned_abs p.x ≤ n
  pub y : unsigned_abs p.y ≤ n

-- the greatest scaled coordinate of a command in bounds
pub record IsCornerNear (c : Corner) : Type 0 where
  pub x : unsigned_abs c.x ≤ 2 ^ 82
  pub y : unsigned_abs c.y ≤ 2 ^ 82
