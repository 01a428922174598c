-- How two rectangles lie to each other, by the parts that they have in common.
use Rattle.std.proofs.Common.{◌≡◌, ◌⊎◌, inl, inr, ℕ, ◌≤◌, ℤ, ◌<ℤ◌, ◌≤ℤ◌}
use Rattle.std.specs.Int.{int_max, int_min}
use Rattle.dpl_cell.specs.Places.{Corners}
use Rattle.dpl_cell.specs.Cells.{IsWithin}
use Rattle.dpl_cell.specs.Gaps.{between, IsBetween}
use Rattle.dpl_cell.specs.Facing.{IsCommon, IsAhead, IsDistance}
use Rattle.dpl_list.proofs.Integers.{signed}

-- from the greater start to the lesser end goes what two stretches have in common
pub common : (a1 a2 b1 b2 from to : ℤ) → from ≡ int_max a1 b1 → to ≡ int_min a2 b2 → from <ℤ to → IsCommon from to a1 a2 b1 b2
common a1 a2 b1 b2 from to e f h = record { some = h; each = λ k. ((λ w. (search signed, search signed)), (λ w. let u = w.0 in let v = w.1 in search signed)) }

-- of two stretches with nothing in common, the one that starts first stands before the other
pub ahead : (a1 a2 b1 b2 : ℤ) → int_min a2 b2 ≤ℤ int_max a1 b1 → a1 <ℤ a2 → b1 <ℤ b2 → a1 ≤ℤ b1 → IsAhead a1 a2 b1 b2
ahead a1 a2 b1 b2 h s t l x y w v = let p = w.to in let q = v.from in let r = w.from in omega signed

-- the same where the second starts first
pub behind : (a1 a2 b1 b2 : ℤ) → int_min a2 b2 ≤ℤ int_max a1 b1 → a1 <ℤ a2 → b1 <ℤ b2 → b1 <ℤ a1 → IsAhead b1 b2 a1 a2
behind a1 a2 b1 b2 h s t l x y w v = let p = w.to in let q = v.from in let r = w.from in omega signed

distance : (a1 a2 b1 b2 : ℤ) (n : ℕ) → int_min a2 b2 ≤ℤ int_max a1 b1
    → ((x y : ℤ) → IsWithin a1 a2 x → IsWithin b1 b2 y → n ≤ between x y) → IsBetween a1 a2 b1 b2 n
    → IsDistance a1 a2 b1 b2 n
distance a1 a2 b1 b2 n h l t = record { none = λ k w v. omega signed; least = l; attained = t }

-- how far apart two rectangles are that have neither columns nor rows in common
pub distances : (a b : Corners) (dx dy : ℕ) → (int_min a.x2 b.x2 ≤ℤ int_max a.x1 b.x1) × (int_min a.y2 b.y2 ≤ℤ int_max a.y1 b.y1)
    → ((x y : ℤ) → IsWithin a.x1 a.x2 x → IsWithin b.x1 b.x2 y → dx ≤ between x y) → IsBetween a.x1 a.x2 b.x1 b.x2 dx
    → ((x y : ℤ) → IsWithin a.y1 a.y2 x → IsWithin b.y1 b.y2 y → dy ≤ between x y) → IsBetween a.y1 a.y2 b.y1 b.y2 dy
    → IsDistance a.x1 a.x2 b.x1 b.x2 dx × IsDistance a.y1 a.y2 b.y1 b.y2 dy
distances a b dx dy (h, g) l s m t = (distance _ _ _ _ dx h l s, distance _ _ _ _ dy g m t)

-- where one of two stretches is empty and the first is not, the second is
pub other_side : (l r l' r' : ℤ) → (r ≤ℤ l) ⊎ (r' ≤ℤ l') → l <ℤ r → r' ≤ℤ l'
other_side l r l' r' (inl h) g = absurd (omega signed)
other_side l r l' r' (inr h) g = h

-- what the test of two numbers says
