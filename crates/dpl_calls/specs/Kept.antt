-- What the parts of a layout without a broken rule keep to.
use Rattle.std.specs.Prelude.{ℕ, ◌≡◌, ◌≢◌, ◌⊎◌, ◌<ℤ◌, List, [], ◌∷◌, Option, All}
use Rattle.dpl_calls.specs.declared.figure.Corner.{Corner}
use Rattle.dpl_calls.specs.declared.figure.Figure.{Figure}
use Rattle.dpl_calls.specs.declared.figure.Figure.TheVariants.{Rectangle, Polygon}
use Rattle.dpl_calls.specs.Parts.{corner, Part, Bodies}
use Rattle.dpl_calls.specs.Parts.Part.{Drawn, Called}
use Rattle.dpl_calls.specs.Placement.{IsCornerNear}

-- the line between two points is level or upright
abbrev pub IsLevel : Corner → Corner → Type 0
IsLevel p q = (p.x ≡ q.x) ⊎ (p.y ≡ q.y)

abbrev pub AreLevel : Corner → List Corner → Corner → Type 0
AreLevel p [] last = IsLevel p last
AreLevel p (q ∷ qs) last = IsLevel p q × AreLevel q qs last

-- each side of a polygon is level or upright, the one from its last point to its first among them
abbrev pub HasLevelSides : List Corner → Type 0
HasLevelSides [] = Unit {0}
HasLevelSides (p ∷ ps) = AreLevel p ps p

-- a rectangle covers something, and a polygon has level and upright sides
abbrev pub IsSound : Figure → Type 0
IsSound (Rectangle e) = (e.x1 <ℤ e.x2) × (e.y1 <ℤ e.y2)
IsSound (Polygon corners) = HasLevelSides corners

-- no corner lies farther than a command in bounds can put it
abbrev pub IsFigureNear : Figure → Type 0
IsFigureNear (Rectangle e) = IsCornerNear (corner e.x1 e.y1) × IsCornerNear (corner e.x2 e.y2)
IsFigureNear (Polygon corners) = All IsCornerNear corners

-- what keeps level and upright lines, and points apart
pub record IsRigid (f : Corner → Corner) : Type 0 where
  pub level : (a b : Corner) → IsLevel a b → IsLevel (f a) (f b)
  pub apart : (a b : Corner) → a.x ≢ b.x → a.y ≢ b.y → ((f a).x ≢ (f b).x) × ((f a).y ≢ (f b).y)

abbrev pub IsPartKept : Part → Type 0
IsPartKept (Drawn figure) = IsFigureNear figure × IsSound figure
IsPartKept (Called n moves) = IsRigid moves

abbrev pub AreKept : Bodies → Type 0
AreKept bodies = (place : Option ℕ) → All IsPartKept (bodies place)
