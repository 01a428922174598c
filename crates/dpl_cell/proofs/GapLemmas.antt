-- Gaps of rectangles from the gaps of their columns and rows.
use Rattle.std.proofs.Common.{arith, ℕ, ◌+◌, ◌*◌, ◌<◌, ◌≤◌, ℤ, refl}
use Rattle.dpl_cell.specs.Places.{Corners}
use Rattle.dpl_cell.specs.Cells.{IsWithin, IsIn}
use Rattle.dpl_cell.specs.Gaps.{between, IsBetween, IsGap2, AreClose}

squares : (a b c d : ℕ) → a ≤ c → b ≤ d → a * a + b * b ≤ c * c + d * d
squares a b c d h k = grind arith

-- the gap from the least numbers of columns and of rows between
pub gap_of : (a b : Corners) (dx dy : ℕ) → ((x y : ℤ) → IsWithin a.x1 a.x2 x → IsWithin b.x1 b.x2 y → dx ≤ between x y)
    → ((x y : ℤ) → IsWithin a.y1 a.y2 x → IsWithin b.y1 b.y2 y → dy ≤ between x y)
    → IsBetween a.x1 a.x2 b.x1 b.x2 dx → IsBetween a.y1 a.y2 b.y1 b.y2 dy → IsGap2 (IsIn a) (IsIn b) (dx * dx + dy * dy)
gap_of a b dx dy least_x least_y (x, x', h, h', e) (y, y', k, k', f) = record {
  least = λ x y x' y' c. squares _ _ _ _ (least_x x x' c.first.column c.second.column) (least_y y y' c.first.row c.second.row);
  attained = (x, y, x', y', record { first = record { column = h; row = k }; second = record { column = h'; row = k' } }, rw (e, f) refl);
}

-- sets are close exactly where their gap is less than the square of the reach
pub close_by_gap : (one other : ℤ → ℤ → Type 0) (n reach : ℕ) → IsGap2 one other n → n < reach * reach → AreClose one other reach
close_by_gap one other n reach g l =
    let (x, y, x', y', c, e) = g.attained in
    record { x = x; y = y; x' = x'; y' = y'; cells = c; near = rw e l }

-- the gap of close sets is less than the square of the reach
pub gap_by_close : (one other : ℤ → ℤ → Type 0) (n reach : ℕ) → IsGap2 one other n → AreClose one other reach → n < reach * reach
gap_by_close one other n reach g c =
    let l = g.least c.x c.y c.x' c.y' c.cells in
    let k = c.near in omega arith
