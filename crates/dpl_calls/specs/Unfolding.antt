-- The calls of a layout, carried out (Mead and Conway 1980, section 4.5).
use Rattle.std.specs.Prelude.{ℕ, zero, suc, List, [], ◌∷◌, map, Some}
use Rattle.std.specs.List.{flat_map}
use Rattle.std.specs.Int.{int_min, int_max}
use Rattle.dpl_rules.specs.declared.figures.Extent.{Extent}
use Rattle.dpl_calls.specs.declared.figure.Corner.{Corner}
use Rattle.dpl_calls.specs.declared.figure.Figure.{Figure}
use Rattle.dpl_calls.specs.declared.figure.Figure.TheVariants.{Rectangle, Polygon}
use Rattle.dpl_calls.specs.Parts.{corner, Part, Bodies}
use Rattle.dpl_calls.specs.Parts.Part.{Drawn, Called}

-- the rectangle between two opposite corners
abbrev pub extent_between : Corner → Corner → Extent
extent_between a b = record {
  x1 = int_min a.x b.x;
  y1 = int_min a.y b.y;
  x2 = int_max a.x b.x;
  y2 = int_max a.y b.y;
}

-- a figure where its points go
abbrev pub placed : (Corner → Corner) → Figure → Figure
placed place (Rectangle e) =
    Rectangle (extent_between (place (corner e.x1 e.y1)) (place (corner e.x2 e.y2)))
placed place (Polygon corners) = Polygon (map place corners)

-- a call gives the figures of the definition that it names, its own moves before those around it
abbrev pub part_figures : Bodies → ((Corner → Corner) → List Part → List Figure) →
    (Corner → Corner) → Part → List Figure
part_figures bodies inner place (Drawn figure) = placed place figure ∷ []
part_figures bodies inner place (Called n moves) = inner (λ c. place (moves c)) (bodies (Some n))

-- The figures of these parts, with calls carried out in their places, at most so deep. Where there
-- is no loop no call is deeper than there are definitions.
abbrev pub figures_of : ℕ → Bodies → (Corner → Corner) → List Part → List Figure
figures_of zero bodies place parts = []
figures_of (suc depth) bodies place parts =
    flat_map (part_figures bodies (figures_of depth bodies) place) parts
