-- The cells of a layer, by the even-odd rule.
use Rattle.std.specs.Prelude.{ℕ, ◌+◌, ◌%◌, ◌==◌, ◌&&◌, Bool, false, if◌then◌else◌, List, [], ◌∷◌, map, ℤ, int_lt, int_le}
use Rattle.std.specs.List.{list_any}
use Rattle.std.specs.Int.{int_min, int_max}
use Rattle.dpl_cell.specs.declared.layout.Layout.{Layout}
use Rattle.dpl_cell.specs.Places.{Corners}
use Rattle.dpl_cell.specs.Outlines.{Outline, Box, Polygon, outline_of}

-- x is in the stretch from a to b, b left out
abbrev pub is_within : ℤ → ℤ → ℤ → Bool
is_within a b x = int_le a x && int_lt x b

-- a box holds the cells of its columns and rows
abbrev pub is_in_box : Corners → ℤ → ℤ → Bool
is_in_box r x y = is_within r.x1 r.x2 x && is_within r.y1 r.y2 y

-- the side from p to q stands at or left of column x and spans row y (a level side spans no row)
abbrev pub is_left_side : ℤ → ℤ → ℤ × ℤ → ℤ × ℤ → Bool
is_left_side x y p q = int_le p.0 x && is_within (int_min p.1 q.1) (int_max p.1 q.1) y

-- how many sides stand so, from one point through the list and on to the last
abbrev pub left_sides : ℤ → ℤ → ℤ × ℤ → List (ℤ × ℤ) → ℤ × ℤ → ℕ
left_sides x y p [] last = if is_left_side x y p last then 1 else 0
left_sides x y p (q ∷ qs) last = (if is_left_side x y p q then 1 else 0) + left_sides x y q qs last

-- a polygon holds a cell where an odd number of its sides stand at or left of it and span its row
abbrev pub is_in_polygon : List (ℤ × ℤ) → ℤ → ℤ → Bool
is_in_polygon [] x y = false
is_in_polygon (p ∷ ps) x y = left_sides x y p ps p % 2 == 1

abbrev pub is_in_outline : ℤ → ℤ → Outline → Bool
is_in_outline x y (Box r) = is_in_box r x y
is_in_outline x y (Polygon points) = is_in_polygon points x y

-- the layer holds the cells that lie in at least one of its parts
abbrev pub is_cell : List Outline → ℤ → ℤ → Bool
is_cell outlines x y = list_any (is_in_outline x y) outlines

-- the cells of a layout
abbrev pub cells_of : Layout → ℤ → ℤ → Bool
cells_of layout = is_cell (map outline_of layout.prims)
