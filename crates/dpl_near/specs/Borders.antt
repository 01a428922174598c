-- Borders of rectangles, and which lie along one another.
use Rattle.std.specs.Prelude.{◌≡◌, true, ◌⊎◌, ◌||◌, ◌&&◌, ℕ, ◌<◌, ◌<ℤ◌, Bool, if◌then◌else◌, int_lt, int_le}
use Rattle.std.specs.Prelude.{List, All, AllPairs, Contains, length, slice_index_or, min, max}
use Rattle.std.specs.Ordering.{int_eq}
use Rattle.dpl_cell.specs.Places.{Corners}
use Rattle.dpl_near.specs.declared.borders.Border.{Border}

-- the left border of a rectangle, or its lower one
abbrev pub first_border : Bool → Corners → ℕ → Border
first_border upright r number =
    if upright
    then record { line = r.x1; from = r.y1; to = r.y2; number = number }
    else record { line = r.y1; from = r.x1; to = r.x2; number = number }

-- the right border of a rectangle, or its upper one
abbrev pub last_border : Bool → Corners → ℕ → Border
last_border upright r number =
    if upright
    then record { line = r.x2; from = r.y1; to = r.y2; number = number }
    else record { line = r.y2; from = r.x1; to = r.x2; number = number }

-- the first borders of all rectangles, in any order
pub record AreBorders (upright : Bool) (rects : List Corners) (borders : List Border) : Type 0 where
  pub each : (b : Border) → Contains borders b → (i : ℕ) × (i < length rects) ×
      ((d : Corners) → b ≡ first_border upright (slice_index_or rects i d) i)
  pub all : (i : ℕ) (d : Corners) → i < length rects →
      Contains borders (first_border upright (slice_index_or rects i d) i)

-- the borders run along one line, and have a stretch of it in common
pub record AreAlong (a b : Border) : Type 0 where
  pub line : a.line ≡ b.line
  pub above : a.from <ℤ b.to
  pub below : b.from <ℤ a.to

-- the first border runs along a lower line, or ends where the second begins or before
abbrev pub is_before : Border → Border → Bool
is_before a b = int_lt a.line b.line || (int_eq a.line b.line && int_le a.to b.from)

-- borders of some length, each before the next
pub record AreInOrder (borders : List Border) : Type 0 where
  pub long : All (λ b. b.from <ℤ b.to) borders
  pub order : AllPairs (λ a b. is_before a b ≡ true) borders

-- the second border runs along the line of the first
abbrev pub IsOnLineOf : Border → Border → Type 0
IsOnLineOf a b = b.line ≡ a.line

-- two numbers, the smaller first
abbrev pub pair_of : Border → Border → ℕ × ℕ
pair_of a b = (min a.number b.number, max a.number b.number)

-- the second list has what the first has, and the pairs of a border and those that lie along it
pub record AddsAlong (border : Border) (borders : List Border) (pairs new : List (ℕ × ℕ)) :
    Type 0 where
  pub kept : (p : ℕ × ℕ) → Contains pairs p → Contains new p
  pub all : (b : Border) → Contains borders b → AreAlong border b → Contains new (pair_of border b)
  pub each : (p : ℕ × ℕ) → Contains new p → Contains pairs p ⊎
      ((b : Border) × Contains borders b × AreAlong border b × (p ≡ pair_of border b))
