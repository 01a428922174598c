-- A text of two masks draws the rectangles of each mask on its layer.
use Rattle.std.proofs.Common.{arith, ◌≡◌, ℕ, suc, ◌<◌, Bool, true, false, List, [], ◌∷◌, ◌++◌, map, refl, ap, ◌∙◌}
use Rattle.std.proofs.Common.{append-nil, Option, None, Some, All, if◌then◌else◌}
use Rattle.std.specs.Prelude.{ℤ, pos, ◌<ℤ◌, ◌-ℤ◌, ◌*ℤ◌, codes, unsigned_abs, nat_eq}
use Rattle.std.specs.List.{flat_map}
use Rattle.std.specs.Str.{bytes_eq}
use Rattle.std.proofs.lemmas.Bool.Decides.{nat_tests}
use Rattle.std.proofs.lemmas.Grind.{flat_map-append}
use Rattle.std.proofs.lemmas.Int.{ints}
use Rattle.std.proofs.lemmas.List.{map-append}
use Rattle.std.proofs.lemmas.List.Elements.{All-head, All-tail}
use Rattle.dpl_cell.specs.Places.{Corners}
use Rattle.dpl_cell.specs.Outlines as outlines
use Rattle.dpl_cell.specs.Outlines.{Outline}
use Rattle.dpl_cell.specs.Ranges.{IsRectangle}
use Rattle.dpl_rules.specs.declared.command.Command.TheVariants.{Box}
use Rattle.dpl_rules.specs.Rules.{at_first, one_to_one}
use Rattle.dpl_cif.specs.Drawn as cif
use Rattle.dpl_calls.specs.declared.figure.Corner.{Corner}
use Rattle.dpl_calls.specs.declared.figure.Figure.{Figure}
use Rattle.dpl_calls.specs.declared.figure.Figure.TheVariants as figure
use Rattle.dpl_calls.specs.Parts.{Part, Bodies, parts_of, parts_from, transformed_by}
use Rattle.dpl_calls.specs.Put.{where_true}
use Rattle.dpl_calls.specs.Parts.Part.{Drawn, Called}
use Rattle.dpl_calls.specs.Unfolding.{figures_of, part_figures, placed}
use Rattle.dpl_boxes.specs.Lines.{Line, said, comment_line}
use Rattle.dpl_boxes.specs.MaskLines.{box_form, box_line, last_lines, lines_of_mask, lines_of_definition, lines_of_masks}
use Rattle.dpl_boxes.proofs.QuarterLemmas.{extent_of, scaled_extent-box}
use Rattle.dpl_boxes.proofs.CleanLemmas.{inside}
use Rattle.dpl_cif.proofs.InOrder.{max_is, min_is}

-- a rectangle as a part of the definition
abbrev pub box_part : Corners → Part
box_part b = Drawn (figure.Rectangle (extent_of b))

some_length : (a b : ℤ) → a <ℤ b → nat_eq (unsigned_abs ((b -ℤ a) *ℤ pos 2)) 0 ≡ false
some_length a b h = let some : 0 < unsigned_abs ((b -ℤ a) *ℤ pos 2) = omega (arith, ints) in positive (unsigned_abs ((b -ℤ a) *ℤ pos 2)) some where
  positive : (n : ℕ) → 0 < n → nat_eq n 0 ≡ false
  positive n l = grind (arith, nat_tests)

box_is_part : (layer : Bool) (b : Corners) → IsRectangle b → parts_of (inside (Some layer)) (Box (box_form b)) ≡ where_true layer (box_part b ∷ [])
box_is_part false b r = refl
box_is_part true b r = rw (some_length b.x1 b.x2 r.columns.some, some_length b.y1 b.y2 r.rows.some, scaled_extent-box b r) refl

parts_of_boxes : (chosen : List ℕ) (layer : Bool) (boxes : List Corners) (rest : List Line) → All IsRectangle boxes →
    parts_from chosen (inside (Some layer)) (map said (map box_line boxes ++ rest)) (Some 1) ≡ where_true layer
    (map box_part boxes) ++ parts_from chosen (inside (Some layer)) (map said rest) (Some 1)
parts_of_boxes chosen false [] rest h = refl
parts_of_boxes chosen true [] rest h = refl
parts_of_boxes chosen false (b ∷ boxes) rest h = parts_of_boxes chosen false boxes rest (All-tail IsRectangle b boxes h)
parts_of_boxes chosen true (b ∷ boxes) rest h = rw (box_is_part true b (All-head IsRectangle b boxes h))
    (ap (λ ps. box_part b ∷ ps) (parts_of_boxes chosen true boxes rest (All-tail IsRectangle b boxes h)))

parts_of_comments : (chosen : List ℕ) (comments : List (List ℕ)) (rest : List Line) (place : Option ℕ)
    → parts_from chosen at_first (map said (map comment_line comments ++ rest)) place ≡ parts_from chosen at_first (map said rest) place
parts_of_comments chosen [] rest place = refl
parts_of_comments chosen (k ∷ ks) rest None = parts_of_comments chosen ks rest None
parts_of_comments chosen (k ∷ ks) rest (Some n) = parts_of_comments chosen ks rest (Some n)

-- the parts of the definition
parts_of_masks : (chosen : List ℕ) (comments : List (List ℕ)) (layer : List ℕ) (on_a on_b : List Corners) → All IsRectangle on_a → All IsRectangle on_b
    → parts_from chosen at_first (map said (lines_of_masks comments layer on_a on_b)) (Some 1)
    ≡ where_true (bytes_eq (layer ++ codes "A") chosen) (map box_part on_a) ++ where_true (bytes_eq (layer ++ codes "B") chosen) (map box_part on_b)
parts_of_masks chosen comments layer on_a on_b a b =
    let one = bytes_eq (layer ++ codes "A") chosen in
    let other = bytes_eq (layer ++ codes "B") chosen in
    let second : parts_from chosen (inside (Some other)) (map said (map box_line on_b ++ last_lines))
    (Some 1) ≡ where_true other (map box_part on_b) ++ [] = parts_of_boxes chosen other on_b last_lines b in
    parts_of_comments chosen comments (lines_of_definition layer on_a on_b) (Some 1)
    ∙ parts_of_boxes chosen one on_a (lines_of_mask (layer ++ codes "B") on_b ++ last_lines) a
    ∙ ap (λ ps. where_true one (map box_part on_a) ++ ps) (second ∙ append-nil (where_true other (map box_part on_b)))

outside_boxes : (chosen : List ℕ) (layer : Bool) (boxes : List Corners) (rest : List Line)
    → parts_from chosen (inside (Some layer)) (map said (map box_line boxes ++ rest)) None ≡ parts_from chosen (inside (Some layer)) (map said rest) None
outside_boxes chosen layer [] rest = refl
outside_boxes chosen layer (b ∷ boxes) rest = outside_boxes chosen layer boxes rest

-- outside definitions there is one call
call_of_masks : (chosen : List ℕ) (comments : List (List ℕ)) (layer : List ℕ) (on_a on_b : List Corners)
    → parts_from chosen at_first (map said (lines_of_masks comments layer on_a on_b)) None ≡ Called 1 (transformed_by one_to_one []) ∷ []
call_of_masks chosen comments layer on_a on_b =
    let one = bytes_eq (layer ++ codes "A") chosen in
    let other = bytes_eq (layer ++ codes "B") chosen in
    parts_of_comments chosen comments (lines_of_definition layer on_a on_b) None
    ∙ outside_boxes chosen one on_a (lines_of_mask (layer ++ codes "B") on_b ++ last_lines) ∙ outside_boxes chosen other on_b last_lines

-- figures

-- the call of the definition leaves each point where it is
abbrev pub still : Corner → Corner
still c = transformed_by one_to_one [] c

outline-still : (b : Corners) → IsRectangle b → cif.drawn (placed still (figure.Rectangle (extent_of b))) ≡ outlines.Box b
outline-still b r = rw (min_is b.x1 b.x2 r.columns.some, min_is b.y1 b.y2 r.rows.some, max_is b.x1 b.x2 r.columns.some, max_is b.y1 b.y2 r.rows.some) refl

abbrev pub boxes_where : Bool → List Corners → List Outline
boxes_where t boxes = if t then map outlines.Box boxes else []

outlines_of_boxes : (bodies : Bodies) (inner : (Corner → Corner) → List Part → List Figure)
    → (boxes : List Corners) → All IsRectangle boxes
    → map cif.drawn (flat_map (part_figures bodies inner still) (map box_part boxes)) ≡ map outlines.Box boxes
outlines_of_boxes bodies inner [] h = refl
outlines_of_boxes bodies inner (b ∷ boxes) h =
    ap (λ o. o ∷ map cif.drawn (flat_map (part_figures bodies inner still) (map box_part boxes))) (outline-still b (All-head IsRectangle b boxes h))
    ∙ ap (λ os. outlines.Box b ∷ os) (outlines_of_boxes bodies inner boxes (All-tail IsRectangle b boxes h))

outlines_where : (bodies : Bodies) (inner : (Corner → Corner) → List Part → List Figure) (t : Bool)
    → (boxes : List Corners) → All IsRectangle boxes
    → map cif.drawn (flat_map (part_figures bodies inner still) (where_true t (map box_part boxes))) ≡ boxes_where t boxes
outlines_where bodies inner true boxes h = outlines_of_boxes bodies inner boxes h
outlines_where bodies inner false boxes h = refl

-- one call of the definition, and nothing else
outlines_of_call : (bodies : Bodies) (depth : ℕ) (one other : Bool) (on_a on_b : List Corners) → All IsRectangle on_a → All IsRectangle on_b
    → bodies None ≡ Called 1 (transformed_by one_to_one []) ∷ [] → bodies (Some 1) ≡ where_true one (map box_part on_a) ++ where_true other (map box_part on_b)
    → map cif.drawn (figures_of (suc (suc depth)) bodies (λ c. c) (bodies None)) ≡ boxes_where one on_a ++ boxes_where other on_b
outlines_of_call bodies depth one other on_a on_b a b call parts =
    let read = part_figures bodies (figures_of depth bodies) still in
    let first = where_true one (map box_part on_a) in
    let second = where_true other (map box_part on_b) in
    rw (
      call,
      parts,
      append-nil (flat_map read (first ++ second)),
      flat_map-append read first second,
      map-append cif.drawn (flat_map read first) (flat_map read second),
      outlines_where bodies (figures_of depth bodies) one on_a a,
      outlines_where bodies (figures_of depth bodies) other on_b b,
    ) refl

-- the outlines of the masks, however deep calls may go
pub outlines_of_masks : (chosen : List ℕ) (comments : List (List ℕ)) (layer : List ℕ) (on_a on_b : List Corners)
    (depth : ℕ) → All IsRectangle on_a → All IsRectangle on_b
    → (let bodies = parts_from chosen at_first (map said (lines_of_masks comments layer on_a on_b)) in
    map cif.drawn (figures_of (suc (suc depth)) bodies (λ c. c) (bodies None)))
    ≡ boxes_where (bytes_eq (layer ++ codes "A") chosen) on_a ++ boxes_where (bytes_eq (layer ++ codes "B") chosen) on_b
outlines_of_masks chosen comments layer on_a on_b depth a b =
    outlines_of_call (parts_from chosen at_first (map said (lines_of_masks comments layer on_a on_b))) depth
    (bytes_eq (layer ++ codes "A") chosen) (bytes_eq (layer ++ codes "B") chosen) on_a on_b a b
    (call_of_masks chosen comments layer on_a on_b) (parts_of_masks chosen comments layer on_a on_b a b)
