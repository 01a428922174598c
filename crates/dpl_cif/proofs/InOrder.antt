-- The primitives of a text without calls are those of its commands in order.
use Rattle.std.proofs.Common.{◌≡◌, ◌⊎◌, inl, inr, ℕ, zero, suc, ◌+◌, ◌≤◌, ◌<◌, ℤ, ◌<ℤ◌, Bool, true, false, cond, ◌&&◌}
use Rattle.std.proofs.Common.{◌||◌, ◌==◌, not, List, [], ◌∷◌, ◌++◌, map, is_some, Option, None, Some, Result, Ok, Err}
use Rattle.std.proofs.Common.{All, refl, sym, ◌∙◌, ap, subst, arith}
use Rattle.std.specs.List.{list_all, flat_map}
use Rattle.std.specs.Int.{int_min, int_max}
use Rattle.std.proofs.lemmas.Int.{ints}
use Rattle.dpl_rules.specs.declared.command.Command.{Command}
use Rattle.dpl_rules.specs.declared.command.Command.TheVariants.{Idle, Polygon, Box, Wire, Flash, Layer, Start, Finish, Delete, Call}
use Rattle.dpl_rules.specs.declared.scope.Scope.{Scope}
use Rattle.dpl_rules.specs.declared.what.What.{What}
use Rattle.dpl_rules.specs.declared.figures.Extent.{Extent}
use Rattle.dpl_rules.specs.declared.command.Scale.{Scale}
use Rattle.dpl_rules.specs.Figures.{box_extent, legs}
use Rattle.dpl_rules.specs.Rules.{Fault, at_first, after, is_chosen}
use Rattle.dpl_calls.specs.Loops.{or_fault}
use Rattle.dpl_cell.specs.Outlines.{Outline}
use Rattle.dpl_calls.specs.declared.figure.Corner.{Corner}
use Rattle.dpl_calls.specs.declared.figure.Figure.{Figure}
use Rattle.dpl_calls.specs.declared.figure.Figure.TheVariants as figure
use Rattle.dpl_calls.specs.Parts.{Part, Bodies, corner, is_same, parts_of, parts_from, rectangle, scaled_corner}
use Rattle.dpl_calls.specs.Put.{where_true}
use Rattle.dpl_calls.specs.Parts.Part.{Drawn, Called}
use Rattle.dpl_calls.specs.Unfolding.{placed, part_figures, figures_of, extent_between}
use Rattle.dpl_calls.specs.Kept.{IsSound, IsPartKept}
use Rattle.dpl_cif.specs.Drawn.{drawn, corner_place}
use Rattle.dpl_cif.specs.Reading.{forms_of}
use Rattle.dpl_cif.specs.Laws.{is_no_call, own_outlines, outside, drawn_in_order}
use Rattle.std.proofs.lemmas.Bool.{and_parts}

pub min_is : (a b : ℤ) → a <ℤ b → int_min a b ≡ a
min_is a b h = grind (arith, ints)

pub max_is : (a b : ℤ) → a <ℤ b → int_max a b ≡ b
max_is a b h = grind (arith, ints)

map_unmoved : (cs : List Corner) → map (λ c. c) cs ≡ cs
map_unmoved [] = refl
map_unmoved (c ∷ cs) = ap (λ (ds : List Corner). c ∷ ds) (map_unmoved cs)

-- where nothing is moved figures stay
stays : (f : Figure) → IsSound f → placed (λ c. c) f ≡ f
stays (figure.Rectangle e) s = rw (min_is e.x1 e.x2 s.0, min_is e.y1 e.y2 s.1, max_is e.x1 e.x2 s.0, max_is e.y1 e.y2 s.1) refl
stays (figure.Polygon cs) s = ap (λ (ds : List Corner). figure.Polygon ds) (map_unmoved cs)

-- no part is a call
abbrev pub is_drawn : Part → Bool
is_drawn (Drawn f) = true
is_drawn (Called n moves) = false

own_figures : (bodies : Bodies) (inner : (Corner → Corner) → List Part → List Figure) (ps : List Part)
    → list_all is_drawn ps ≡ true → All IsPartKept ps
    → map drawn (flat_map (part_figures bodies inner (λ c. c)) ps) ≡ own_outlines ps
own_figures bodies inner [] d k = refl
own_figures bodies inner (Drawn f ∷ ps) d k =
    rw (stays f (k 0 (Drawn f) (omega arith)).1) (ap (λ (os : List Outline). drawn f ∷ os) (own_figures bodies inner ps d (λ i x h. k (suc i) x (omega arith))))
own_figures bodies inner (Called n moves ∷ ps) d k = cc

own_append : (ps qs : List Part) → own_outlines (ps ++ qs) ≡ own_outlines ps ++ own_outlines qs
own_append [] qs = refl
own_append (Drawn f ∷ ps) qs = ap (λ (os : List Outline). drawn f ∷ os) (own_append ps qs)
own_append (Called n moves ∷ ps) qs = own_append ps qs

where_outside : (o : Option ℕ) (ps : List Part) → own_outlines (where_true (is_same None o) ps) ≡ cond (is_some o) [] (own_outlines ps)
where_outside None ps = refl
where_outside (Some n) ps = refl

in_order : (layer : List ℕ) (s : Scope) (commands : List (Result Command What))
    → own_outlines (parts_from layer s commands None) ≡ drawn_in_order layer s commands
in_order layer s [] = refl
in_order layer s (Err w ∷ rest) = in_order layer s rest
in_order layer s (Ok c ∷ rest) = rw (
  own_append (where_true (is_same None s.definition) (parts_of s c))
      (parts_from layer (after layer s c) rest None),
  where_outside s.definition (parts_of s c),
  in_order layer (after layer s c) rest,
) refl

none_before : {A : Type 0} (xs ys : List A) (test : A → Bool) → list_all test xs ≡ true → list_all test ys ≡ true → list_all test (xs ++ ys) ≡ true
none_before [] ys test h k = k
none_before (x ∷ xs) ys test h k =
    let f = and_parts (test x) (list_all test xs) h in
    rw f.0 (none_before xs ys test f.1 k)

drawn_where : (b : Bool) (ps : List Part) → list_all is_drawn ps ≡ true → list_all is_drawn (where_true b ps) ≡ true
drawn_where true ps h = h
drawn_where false ps h = refl

all_rectangles : (s : Scale) (es : List Extent) → list_all is_drawn (map (rectangle s) es) ≡ true
all_rectangles s [] = refl
all_rectangles s (e ∷ es) = all_rectangles s es

-- a command that is no call puts in figures alone
command_drawn : (s : Scope) (c : Command) → is_no_call (Ok c) ≡ true → list_all is_drawn (parts_of s c) ≡ true
command_drawn s Idle h = refl
command_drawn s (Polygon path) h = drawn_where (is_chosen s.layer) (Drawn (figure.Polygon (map (scaled_corner s.scale) path)) ∷ []) refl
command_drawn s (Box b) h = drawn_where (is_chosen s.layer && not (b.length == 0 || b.width == 0)) (rectangle s.scale (box_extent b) ∷ []) refl
command_drawn s (Wire width path) h = drawn_where (is_chosen s.layer && not (width == 0))
    (map (rectangle s.scale) (legs width path)) (all_rectangles s.scale (legs width path))
command_drawn s (Flash d p) h = refl
command_drawn s (Layer n) h = refl
command_drawn s (Start n k) h = refl
command_drawn s Finish h = refl
command_drawn s (Delete n) h = refl
command_drawn s (Call n ts) h = cc

commands_drawn : (layer : List ℕ) (s : Scope) (commands : List (Result Command What))
    → list_all is_no_call commands ≡ true → list_all is_drawn (parts_from layer s commands None) ≡ true
commands_drawn layer s [] h = refl
commands_drawn layer s (Err w ∷ rest) h = commands_drawn layer s rest h
commands_drawn layer s (Ok c ∷ rest) h =
    let f = and_parts (is_no_call (Ok c)) (list_all is_no_call rest) h in
    none_before (where_true (is_same None s.definition) (parts_of s c)) (parts_from layer (after layer s c) rest None) is_drawn
    (drawn_where (is_same None s.definition) (parts_of s c) (command_drawn s c f.0))
    (commands_drawn layer (after layer s c) rest f.1)

pub first_none : (a b : Option Fault) → or_fault a b ≡ None → a ≡ None
first_none None b h = refl
first_none (Some f) b h = cc

pub all_drawn : (layer text : List ℕ) (depth : ℕ) → All IsPartKept (parts_from layer at_first (forms_of text) None) →
    list_all is_no_call (forms_of text) ≡ true → map drawn
    (figures_of (suc depth) (parts_from layer at_first (forms_of text)) (λ c. c)
    (parts_from layer at_first (forms_of text) None)) ≡ drawn_in_order layer at_first (forms_of text)
all_drawn layer text depth kept h =
    own_figures (parts_from layer at_first (forms_of text))
    (figures_of depth (parts_from layer at_first (forms_of text))) (parts_from layer at_first (forms_of text) None)
    (commands_drawn layer at_first (forms_of text) h) kept
    ∙ in_order layer at_first (forms_of text)
