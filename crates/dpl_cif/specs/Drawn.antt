-- Figures as parts of a layer, and how far they reach.
use Rattle.std.specs.Prelude.{ℕ, ℤ, max, unsigned_abs, List, [], ◌∷◌, map}
use Rattle.dpl_cell.specs.Outlines.{Outline, Box, Polygon}
use Rattle.dpl_calls.specs.declared.figure.Corner.{Corner}
use Rattle.dpl_calls.specs.declared.figure.Figure.{Figure}
use Rattle.dpl_calls.specs.declared.figure.Figure.TheVariants as figure

-- where a corner lies
abbrev pub corner_place : Corner → ℤ × ℤ
corner_place c = (c.x, c.y)

-- the part of the layer that a figure is
abbrev pub drawn : Figure → Outline
drawn (figure.Rectangle e) = Box (record { x1 = e.x1; y1 = e.y1; x2 = e.x2; y2 = e.y2 })
drawn (figure.Polygon corners) = Polygon (map (λ (c : Corner). (c.x, c.y)) corners)

-- the greater magnitude of two coordinates
abbrev pub place_reach : ℤ × ℤ → ℕ
place_reach p = max (unsigned_abs p.0) (unsigned_abs p.1)

abbrev pub places_reach : List (ℤ × ℤ) → ℕ
places_reach [] = 0
places_reach (p ∷ ps) = max (place_reach p) (places_reach ps)

-- the greatest magnitude of the corners of a part
abbrev pub outline_reach : Outline → ℕ
outline_reach (Box c) = max (place_reach (c.x1, c.y1)) (place_reach (c.x2, c.y2))
outline_reach (Polygon places) = places_reach places

-- the greatest magnitude of all corners
abbrev pub reach : List Outline → ℕ
reach [] = 0
reach (o ∷ os) = max (outline_reach o) (reach os)
