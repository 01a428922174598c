-- What the commands of a layout put into its definitions (Mead and Conway 1980, section 4.5).
use Rattle.std.specs.Prelude.{ℕ, ℤ, pos, ◌+ℤ◌, neg_ℤ, int_lt, ◌==◌, ◌&&◌, ◌||◌, not, Bool, true, false, unsigned_abs, List, [], ◌∷◌, ◌++◌, map, Option, None, Some, Result, Ok, Err, if◌then◌else◌}
use Rattle.dpl_rules.specs.declared.command.Spot.{Spot}
use Rattle.dpl_rules.specs.declared.command.Scale.{Scale}
use Rattle.dpl_rules.specs.declared.command.Transformation.{Transformation}
use Rattle.dpl_rules.specs.declared.command.Transformation.TheVariants.{Shift, MirrorX, MirrorY, Rotate}
use Rattle.dpl_rules.specs.declared.command.Command.{Command}
use Rattle.dpl_rules.specs.declared.command.Command.TheVariants.{Polygon, Box, Wire, Call}
use Rattle.dpl_rules.specs.declared.scope.Scope.{Scope}
use Rattle.dpl_rules.specs.declared.what.What.{What}
use Rattle.dpl_rules.specs.declared.figures.Extent.{Extent}
use Rattle.dpl_rules.specs.Figures.{box_extent, legs, scaled, double}
use Rattle.dpl_rules.specs.Rules.{after, is_chosen}
use Rattle.dpl_calls.specs.declared.figure.Corner.{Corner}
use Rattle.dpl_calls.specs.declared.figure.Figure.{Figure}
use Rattle.dpl_calls.specs.declared.figure.Figure.TheVariants as figure

abbrev pub corner : ℤ → ℤ → Corner
corner x y = record { x = x; y = y }

-- A part of a definition: a figure, or a call of a definition with what it does to each point.
pub data Part : Type 0 where
  Drawn : Figure → Part
  Called : ℕ → (Corner → Corner) → Part

-- a point in its scale
abbrev pub scaled_corner : Scale → Spot → Corner
scaled_corner scale s = corner (scaled scale (double s.x)) (scaled scale (double s.y))

-- a rectangle of a box or a wire, in its scale
abbrev pub rectangle : Scale → Extent → Part
rectangle scale e = Drawn (figure.Rectangle (record {
  x1 = scaled scale e.x1;
  y1 = scaled scale e.y1;
  x2 = scaled scale e.x2;
  y2 = scaled scale e.y2;
}))

-- the x axis turns to a direction on an axis
abbrev pub turned : Spot → Corner → Corner
turned to c =
    if unsigned_abs to.y == 0 then (if int_lt to.x (pos 0) then corner (neg_ℤ c.x) (neg_ℤ c.y)
    else c)
    else (if int_lt to.y (pos 0) then corner c.y (neg_ℤ c.x) else corner (neg_ℤ c.y) c.x)

-- one transformation: `T` adds a point, `M X` negates x, `M Y` negates y, `R` turns
abbrev pub transformed : Scale → Transformation → Corner → Corner
transformed scale (Shift by) c =
    corner (c.x +ℤ scaled scale (double by.x)) (c.y +ℤ scaled scale (double by.y))
transformed scale MirrorX c = corner (neg_ℤ c.x) c.y
transformed scale MirrorY c = corner c.x (neg_ℤ c.y)
transformed scale (Rotate to) c = turned to c

-- the transformations of a call, in the order written
abbrev pub transformed_by : Scale → List Transformation → Corner → Corner
transformed_by scale [] c = c
transformed_by scale (t ∷ ts) c = transformed_by scale ts (transformed scale t c)

-- what one command puts in: no figure of another layer, and no box or wire that covers nothing
abbrev pub parts_of : Scope → Command → List Part
parts_of s (Polygon path) =
    if is_chosen s.layer then Drawn (figure.Polygon (map (scaled_corner s.scale) path)) ∷ [] else []
parts_of s (Box b) = if is_chosen s.layer && not (b.length == 0 || b.width == 0)
    then rectangle s.scale (box_extent b) ∷ [] else []
parts_of s (Wire width path) =
    if is_chosen s.layer && not (width == 0) then map (rectangle s.scale) (legs width path) else []
parts_of s (Call n transformations) = Called n (transformed_by s.scale transformations) ∷ []
parts_of s c = []

abbrev pub is_same : Option ℕ → Option ℕ → Bool
is_same None None = true
is_same None (Some m) = false
is_same (Some n) None = false
is_same (Some n) (Some m) = n == m

-- the parts of each definition by its number, and those outside definitions
abbrev pub Bodies : Type 0
Bodies = Option ℕ → List Part

-- what the commands from here on put into a definition, or outside, in order
abbrev pub parts_from : List ℕ → Scope → List (Result Command What) → Bodies
parts_from chosen s [] place = []
parts_from chosen s (Err what ∷ rest) place = parts_from chosen s rest place
parts_from chosen s (Ok c ∷ rest) place = (if is_same place s.definition then parts_of s c else [])
    ++ parts_from chosen (after chosen s c) rest place
