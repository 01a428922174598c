-- Rectangles that are close, by their bounds.
use Rattle.std.proofs.Common.{arith, ◌≡◌, ℕ, ◌+◌, ◌*◌, ◌<◌, ◌≤◌, ℤ, pos, neg_ℤ, ◌^◌, ◌-ℤ◌, ◌+ℤ◌, ◌<ℤ◌, ◌≤ℤ◌, List}
use Rattle.std.proofs.Common.{length, get_or, map, refl, inl, inr, rules, SFits, w64}
use Rattle.std.proofs.lemmas.Bool.{cases_lt}
use Rattle.std.proofs.lemmas.Int.{ints}
use Rattle.std.proofs.lemmas.List.{get_or-map}
use Rattle.dpl_index.specs.declared.bounds.Bounds.{Bounds}
use Rattle.dpl_index.specs.Meetings.{Meets}
use Rattle.dpl_cell.specs.declared.rect.Rect.{Rect}
use Rattle.dpl_cell.specs.Places.{Corners, corners_of}
use Rattle.dpl_cell.specs.Cells.{IsIn}
use Rattle.dpl_cell.specs.Gaps.{between, AreClose}
use Rattle.dpl_near.specs.Bounds.{bounds_of}
use Rattle.dpl_list.proofs.Integers.{signed}
use Rattle.dpl_list.proofs.Naturals.{square_le}

-- ---- rectangles closer than the reach have bounds that meet those of one, widened

first_less : (a b r : ℕ) → a * a + b * b < r * r → a < r
first_less a b r h = elim (cases_lt a r) [ inl l ↦ l | inr l ↦ let s = square_le r a l in absurd (omega arith) ]

second_less : (a b r : ℕ) → a * a + b * b < r * r → b < r
second_less a b r h = elim (cases_lt b r) [ inl l ↦ l | inr l ↦ let s = square_le r b l in absurd (omega arith) ]

pub close_meets : (r other : Corners) (reach : ℕ) → AreClose (IsIn r) (IsIn other) reach
    → Meets (bounds_of other) (record {
      left = r.x1 -ℤ (pos reach -ℤ pos 1);
      right = r.x2 +ℤ (pos reach -ℤ pos 1);
      low = r.y1 -ℤ (pos reach -ℤ pos 1);
      high = r.y2 +ℤ (pos reach -ℤ pos 1);
    })
close_meets r other reach c =
    let column : between c.x c.x' < reach = first_less _ (between c.y c.y') _ c.near in
    let row : between c.y c.y' < reach = second_less (between c.x c.x') _ _ c.near in
    let a = c.cells.first in
    let b = c.cells.second in
    record {
      left = let f = a.column.to in let g = b.column.from in omega signed;
      right = let f = a.column.from in let g = b.column.to in omega signed;
      low = let f = a.row.to in let g = b.row.from in omega signed;
      high = let f = a.row.from in let g = b.row.to in omega signed;
    }

-- the widened ends are numbers of the code
pub wider_fit : (r : Rect) (reach : ℕ) → reach ≤ 200000
    → SFits w64 (r.x1 -ℤ (pos reach -ℤ pos 1)) × (SFits w64 (r.x2 +ℤ (pos reach -ℤ pos 1)) ×
    (SFits w64 (r.y1 -ℤ (pos reach -ℤ pos 1)) × SFits w64 (r.y2 +ℤ (pos reach -ℤ pos 1))))
wider_fit r reach h = (
  less r.x1 r.left (below _ _ r.wide r.right),
  (more r.x2 (above _ _ r.wide r.left) r.right, (less r.y1 r.below (below _ _ r.high r.above), more r.y2 (above _ _ r.high r.below) r.above)),
) where
  below : (a b : ℤ) → a <ℤ b → b ≤ℤ pos (2 ^ 30) → a ≤ℤ pos (2 ^ 30)
  below a b f g = omega signed

  above : (a b : ℤ) → a <ℤ b → neg_ℤ (pos (2 ^ 30)) ≤ℤ a → neg_ℤ (pos (2 ^ 30)) ≤ℤ b
  above a b f g = omega signed

  less : (z : ℤ) → neg_ℤ (pos (2 ^ 30)) ≤ℤ z → z ≤ℤ pos (2 ^ 30) → SFits w64 (z -ℤ (pos reach -ℤ pos 1))
  less z f g = search (rules, ints)

  more : (z : ℤ) → neg_ℤ (pos (2 ^ 30)) ≤ℤ z → z ≤ℤ pos (2 ^ 30) → SFits w64 (z +ℤ (pos reach -ℤ pos 1))
  more z f g = search (rules, ints)

-- ---- bounds by number

pub bounds_at : (rects : List Rect) (j : ℕ) (r : Rect) (d : Bounds) (e : Corners) → j < length rects
    → get_or (map (λ q. bounds_of (corners_of q)) rects) j d ≡ bounds_of (get_or (map corners_of rects) j e)
bounds_at rects j r d e l = rw (get_or-map (λ q. bounds_of (corners_of q)) rects j r d l, get_or-map corners_of rects j r e l) refl
