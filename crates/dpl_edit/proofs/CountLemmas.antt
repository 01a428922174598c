-- A session counts the primitives of a text as the reader does.
use Rattle.std.proofs.Common.{arith, ◌≡◌, ◌∙◌, ℕ, zero, suc, ◌+◌, List, [], ◌∷◌, ◌++◌, map, length, refl, ap, Some, None}
use Rattle.std.specs.Prelude.{sum_by}
use Rattle.std.specs.List.{flat_map}
use Rattle.std.proofs.lemmas.List.{map-append}
use Rattle.std.proofs.lemmas.List.Concat.{flat_map-cons}
use Rattle.std.proofs.lemmas.List.Sums.{sum_by-append, sum_by-cons}
use Rattle.dpl_cell.specs.declared.layout.Primitive.{Primitive}
use Rattle.dpl_cell.specs.declared.layout.Primitive.TheVariants as prim
use Rattle.dpl_cell.specs.Places.{place_of, corners_of}
use Rattle.dpl_cell.specs.Outlines.{Outline, outline_of}
use Rattle.dpl_cell.specs.Outlines as outline
use Rattle.dpl_calls.specs.declared.figure.Corner.{Corner}
use Rattle.dpl_calls.specs.declared.figure.Figure.{Figure}
use Rattle.dpl_calls.specs.declared.figure.Figure.TheVariants.{Rectangle, Polygon}
use Rattle.dpl_calls.specs.Parts.{Part, Bodies}
use Rattle.dpl_calls.specs.Parts.Part.{Drawn, Called}
use Rattle.dpl_calls.specs.Unfolding.{placed, part_figures, figures_of}
use Rattle.dpl_calls.specs.Totals.{part_total, total_of, own_weight}
use Rattle.dpl_cif.specs.Drawn.{drawn}
use Rattle.dpl_cif.specs.Reading.{primitive_count, depth_of, bodies_in}
use Rattle.dpl_options.specs.Options.{PlainOptions}
use Rattle.dpl_layer.specs.declared.drawing.Drawing.{Drawing}
use Rattle.dpl_layer.specs.Drawings.{IsDrawingOf}
use Rattle.dpl_edit.specs.Contents.{weight_of, prim_count}

-- what an outline counts
abbrev outline_weight : Outline → ℕ
outline_weight (outline.Box r) = 1
outline_weight (outline.Polygon places) = length places

map_size : {A B : Type 0} (f : A → B) (xs : List A) → length (map f xs) ≡ length xs
map_size f [] = refl
map_size f (x ∷ xs) = ap suc (map_size f xs)

figure_weight : (place : Corner → Corner) (f : Figure) → outline_weight (drawn (placed place f)) ≡ own_weight (Drawn f)
figure_weight place (Rectangle e) = refl
figure_weight place (Polygon corners) = map_size (λ (c : Corner). (c.x, c.y)) (map place corners) ∙ map_size place corners

-- what figures count
weight_in : List Figure → ℕ
weight_in figures = sum_by outline_weight (map drawn figures)

weight_append : (xs ys : List Figure) → weight_in (xs ++ ys) ≡ weight_in xs + weight_in ys
unfolding weight_in
weight_append xs ys = ap (λ z. sum_by outline_weight z) (map-append drawn xs ys) ∙ sum_by-append outline_weight (map drawn xs) (map drawn ys)

part_weight : (bodies : Bodies) (inner : (Corner → Corner) → List Part → List Figure) (total : List Part → ℕ)
    → ((place : Corner → Corner) (ps : List Part) → weight_in (inner place ps) ≡ total ps) → (place : Corner → Corner) (p : Part)
    → weight_in (part_figures bodies inner place p) ≡ part_total own_weight bodies total p
unfolding weight_in
part_weight bodies inner total h place (Drawn f) = let e = figure_weight place f in omega (arith, e)
part_weight bodies inner total h place (Called n moves) = let e = h (λ c. place (moves c)) (bodies (Some n)) in omega (arith, e)

parts_weight : (bodies : Bodies) (inner : (Corner → Corner) → List Part → List Figure) (total : List Part → ℕ)
    → ((place : Corner → Corner) (ps : List Part) → weight_in (inner place ps) ≡ total ps) → (place : Corner → Corner) (ps : List Part)
    → weight_in (flat_map (part_figures bodies inner place) ps) ≡ sum_by (part_total own_weight bodies total) ps
unfolding weight_in
parts_weight bodies inner total h place [] = refl
parts_weight bodies inner total h place (p ∷ ps) =
    let split = ap weight_in (flat_map-cons (part_figures bodies inner place) p ps)
    ∙ weight_append (part_figures bodies inner place p) (flat_map (part_figures bodies inner place) ps) in
    let one = part_weight bodies inner total h place p in
    let rest = parts_weight bodies inner total h place ps in
    omega (arith, split, one, rest, sum_by-cons (part_total own_weight bodies total) p ps)

figures_weight : (depth : ℕ) (bodies : Bodies) (place : Corner → Corner) (ps : List Part)
    → weight_in (figures_of depth bodies place ps) ≡ total_of own_weight depth bodies ps
unfolding weight_in
figures_weight zero bodies place ps = refl
figures_weight (suc depth) bodies place ps = parts_weight bodies (figures_of depth bodies) (total_of own_weight depth bodies)
    (figures_weight depth bodies) place ps

prim_weight : (prims : List Primitive) → prim_count prims ≡ sum_by outline_weight (map outline_of prims)
prim_weight [] = refl
prim_weight (prim.Box r ∷ ps) = let e = prim_weight ps in omega (arith, e, sum_by-cons weight_of (prim.Box r) ps, sum_by-cons outline_weight (outline.Box (corners_of r)) (map outline_of ps))
prim_weight (prim.Poly points ∷ ps) =
    let e = prim_weight ps in
    omega (arith, e, map_size place_of points, sum_by-cons weight_of (prim.Poly points) ps, sum_by-cons outline_weight (outline.Polygon (map place_of points)) (map outline_of ps))

-- primitives that are drawn by figures count as those do
pub counted_alike : (depth : ℕ) (bodies : Bodies) (ps : List Part) (prims : List Primitive)
    → map outline_of prims ≡ map drawn (figures_of depth bodies (λ c. c) ps) → prim_count prims ≡ total_of own_weight depth bodies ps
unfolding weight_in
counted_alike depth bodies ps prims e = prim_weight prims ∙ ap (λ z. sum_by outline_weight z) e ∙ figures_weight depth bodies (λ c. c) ps

-- so a session counts what a text draws as its reader does
pub text_counted : (o : PlainOptions) (text : List ℕ) (d : Drawing) → IsDrawingOf o text d
    → prim_count d.layer.prims ≡ primitive_count o.layer text
text_counted o text d is = counted_alike (depth_of text) (bodies_in o.layer text) (bodies_in o.layer text None) d.layer.prims is.layer
