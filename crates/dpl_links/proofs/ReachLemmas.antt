-- How far a rectangle is at least from those that bounds hold.
use Rattle.std.proofs.Common.{arith, ◌≡◌, ℕ, ◌+◌, ◌*◌, ◌<◌, ◌≤◌, ℤ, pos, ◌-ℤ◌, ◌≤ℤ◌, List, length, get_or, sym, ap, ◌∙◌}
use Rattle.std.specs.Int.{int_max}
use Rattle.std.specs.Int.RustNames.{unsigned_abs}
use Rattle.dpl_cell.specs.Places.{Corners}
use Rattle.dpl_index.specs.declared.bounds.Bounds.{Bounds}
use Rattle.dpl_links.specs.Pairs.{stretch_gap}
use Rattle.dpl_links.specs.Crowds.{IsLeastGap, AreTold}
use Rattle.dpl_list.proofs.Integers.{signed}

pub apart_before : (a1 a2 b1 b2 c1 c2 : ℤ) (n : ℕ) → b1 ≤ℤ c1 → c2 ≤ℤ b2 → n ≤ unsigned_abs (int_max (pos 0) (b1 -ℤ a2)) → n ≤ stretch_gap a1 a2 c1 c2
apart_before a1 a2 b1 b2 c1 c2 n h k l = omega signed

pub apart_behind : (a1 a2 b1 b2 c1 c2 : ℤ) (n : ℕ) → b1 ≤ℤ c1 → c2 ≤ℤ b2 → n ≤ unsigned_abs (int_max (pos 0) (a1 -ℤ b2)) → n ≤ stretch_gap a1 a2 c1 c2
apart_behind a1 a2 b1 b2 c1 c2 n h k l = omega signed

pub squares : (a b c d : ℕ) → a ≤ c → b ≤ d → a * a + b * b ≤ c * c + d * d
squares a b c d h k = grind arith

pub gap_from : (r : Corners) (b : Bounds) (dx dy : ℕ) → ((c1 c2 : ℤ) → b.left ≤ℤ c1 → c2 ≤ℤ b.right → dx ≤ stretch_gap r.x1 r.x2 c1 c2)
    → ((c1 c2 : ℤ) → b.low ≤ℤ c1 → c2 ≤ℤ b.high → dy ≤ stretch_gap r.y1 r.y2 c1 c2) → IsLeastGap r b (dx * dx + dy * dy)
gap_from r b dx dy columns rows other h = squares dx dy _ _ (columns other.x1 other.x2 h.left h.right) (rows other.y1 other.y2 h.low h.high)

-- ---- numbers by their keys

pub told_by : (by_key keys values : List ℕ) (n : ℕ) → length keys ≤ n
    → ((j : ℕ) → j < n → get_or by_key (get_or keys j 0) 0 ≡ get_or values j 0) → AreTold keys values
told_by by_key keys values n whole told j k h l e = sym (told j (omega arith)) ∙ ap (λ p. get_or by_key p 0) e ∙ told k (omega arith)
