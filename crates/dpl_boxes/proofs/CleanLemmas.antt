-- A text of two masks breaks no rule.
use Rattle.std.proofs.Common.{◌≡◌, ℕ, ◌+◌, Bool, true, false, List, [], ◌∷◌, ◌++◌, map, refl, ◌∙◌, Option, None, Some, All}
use Rattle.std.specs.Prelude.{codes}
use Rattle.std.specs.Str.{bytes_eq}
use Rattle.std.proofs.lemmas.List.Elements.{All-head, All-tail}
use Rattle.dpl_cell.specs.Places.{Corners}
use Rattle.dpl_cell.specs.Ranges.{IsRectangle}
use Rattle.dpl_lex.specs.declared.types.Ending.TheVariants.{End}
use Rattle.dpl_rules.specs.declared.command.Command.TheVariants.{Box}
use Rattle.dpl_rules.specs.declared.scope.Scope.{Scope}
use Rattle.dpl_rules.specs.declared.what.What.TheVariants as what
use Rattle.dpl_rules.specs.Rules.{at_first, broken_rule, rule_fault}
use Rattle.dpl_calls.specs.Parts.{Bodies, parts_from}
use Rattle.dpl_calls.specs.Loops.{sites_from, numbers_from, first_site, is_looped, fault_of}
use Rattle.dpl_boxes.specs.Lines.{Line, said, comment_line}
use Rattle.dpl_boxes.specs.MaskLines.{quarters, box_form, box_line, last_lines, lines_of_mask, lines_of_definition, lines_of_masks}
use Rattle.dpl_boxes.proofs.QuarterLemmas.{box_is_on_grid}

-- inside the definition
abbrev pub inside : Option Bool → Scope
inside layer = record { definition = Some 1; layer = layer; outer = None; scale = quarters }

-- lines that break no rule, whatever number the first has
record IsClean (chosen : List ℕ) (s : Scope) (seen : List ℕ) (ls : List Line) : Type 0 where
  clean : (at : ℕ) → rule_fault chosen s seen at (map said ls) End ≡ None

box_breaks_nothing : (layer : Bool) (b : Corners) → IsRectangle b → broken_rule (inside (Some layer)) false (Box (box_form b)) ≡ None
box_breaks_nothing false b r = refl
box_breaks_nothing true b r = rw (box_is_on_grid b r) refl

boxes_are_clean : (chosen : List ℕ) (layer : Bool) (boxes : List Corners) (rest : List Line)
    → All IsRectangle boxes → IsClean chosen (inside (Some layer)) (1 ∷ []) rest
    → IsClean chosen (inside (Some layer)) (1 ∷ []) (map box_line boxes ++ rest)
boxes_are_clean chosen layer [] rest h c = c
boxes_are_clean chosen layer (b ∷ boxes) rest h c = record {
  clean = λ at. rw (box_breaks_nothing layer b (All-head IsRectangle b boxes h))
      ((boxes_are_clean chosen layer boxes rest (All-tail IsRectangle b boxes h) c).clean (at + 1));
}

mask_is_clean : (chosen name : List ℕ) (layer : Option Bool) (boxes : List Corners) (rest : List Line)
    → All IsRectangle boxes → ((b : Bool) → IsClean chosen (inside (Some b)) (1 ∷ []) rest)
    → IsClean chosen (inside layer) (1 ∷ []) (lines_of_mask name boxes ++ rest)
mask_is_clean chosen name layer boxes rest h c = record {
  clean = λ at. (boxes_are_clean chosen (bytes_eq name chosen) boxes rest h (c (bytes_eq name chosen))).clean
      (at + 1);
}

last_is_clean : (chosen : List ℕ) (layer : Option Bool) → IsClean chosen (inside layer) (1 ∷ []) last_lines
last_is_clean chosen layer = record { clean = λ at. refl }

definition_is_clean : (chosen layer : List ℕ) (on_a on_b : List Corners) → All IsRectangle on_a
    → All IsRectangle on_b → IsClean chosen at_first [] (lines_of_definition layer on_a on_b)
definition_is_clean chosen layer on_a on_b a b =
    let second = lines_of_mask (layer ++ codes "B") on_b in
    let h = mask_is_clean chosen (layer ++ codes "A") None on_a (second ++ last_lines) a
    (λ one. mask_is_clean chosen (layer ++ codes "B") (Some one) on_b last_lines b (λ other. last_is_clean chosen (Some other))) in
    record { clean = λ at. h.clean (at + 1) }

comments_are_clean : (chosen : List ℕ) (comments : List (List ℕ)) (rest : List Line)
    → IsClean chosen at_first [] rest → IsClean chosen at_first [] (map comment_line comments ++ rest)
comments_are_clean chosen [] rest c = c
comments_are_clean chosen (k ∷ ks) rest c = record { clean = λ at. (comments_are_clean chosen ks rest c).clean (at + 1) }

-- the numbers of definitions

numbers_of_boxes : (seen : List ℕ) (boxes : List Corners) (rest : List Line)
    → numbers_from seen (map said (map box_line boxes ++ rest)) ≡ numbers_from seen (map said rest)
numbers_of_boxes seen [] rest = refl
numbers_of_boxes seen (b ∷ boxes) rest = numbers_of_boxes seen boxes rest

numbers_of_comments : (comments : List (List ℕ)) (rest : List Line)
    → numbers_from [] (map said (map comment_line comments ++ rest)) ≡ numbers_from [] (map said rest)
numbers_of_comments [] rest = refl
numbers_of_comments (k ∷ ks) rest = numbers_of_comments ks rest

pub numbers_of_masks : (comments : List (List ℕ)) (layer : List ℕ) (on_a on_b : List Corners)
    → numbers_from [] (map said (lines_of_masks comments layer on_a on_b)) ≡ 1 ∷ []
numbers_of_masks comments layer on_a on_b =
    numbers_of_comments comments (lines_of_definition layer on_a on_b)
    ∙ numbers_of_boxes (1 ∷ []) on_a (lines_of_mask (layer ++ codes "B") on_b ++ last_lines) ∙ numbers_of_boxes (1 ∷ []) on_b last_lines

-- the calls

-- one call, outside definitions, of the definition 1
record CallsOnce (chosen : List ℕ) (s : Scope) (at : ℕ) (ls : List Line) : Type 0 where
  number : ℕ
  sites : sites_from chosen s at (map said ls) ≡ record { at = number; definition = None; called = 1 } ∷ []

boxes_call_nothing : (chosen : List ℕ) (layer : Bool) (boxes : List Corners) (rest : List Line) (at : ℕ)
    → ((n : ℕ) → CallsOnce chosen (inside (Some layer)) n rest)
    → CallsOnce chosen (inside (Some layer)) at (map box_line boxes ++ rest)
boxes_call_nothing chosen layer [] rest at c = c at
boxes_call_nothing chosen layer (b ∷ boxes) rest at c = let h = boxes_call_nothing chosen layer boxes rest (at + 1) c in
    record { number = h.number; sites = h.sites }

mask_calls_nothing : (chosen name : List ℕ) (layer : Option Bool) (boxes : List Corners) (rest : List Line)
    → (at : ℕ) → ((b : Bool) (n : ℕ) → CallsOnce chosen (inside (Some b)) n rest)
    → CallsOnce chosen (inside layer) at (lines_of_mask name boxes ++ rest)
mask_calls_nothing chosen name layer boxes rest at c =
    let h = boxes_call_nothing chosen (bytes_eq name chosen) boxes rest (at + 1) (c (bytes_eq name chosen)) in
    record { number = h.number; sites = h.sites }

last_calls : (chosen : List ℕ) (layer : Option Bool) (at : ℕ) → CallsOnce chosen (inside layer) at last_lines
last_calls chosen layer at = record { number = at + 1; sites = refl }

calls_of_definition : (chosen layer : List ℕ) (on_a on_b : List Corners) (at : ℕ) → CallsOnce chosen at_first at (lines_of_definition layer on_a on_b)
calls_of_definition chosen layer on_a on_b at =
    let second = lines_of_mask (layer ++ codes "B") on_b in
    let h = mask_calls_nothing chosen (layer ++ codes "A") None on_a (second ++ last_lines) (at + 1)
    (λ one n. mask_calls_nothing chosen (layer ++ codes "B") (Some one) on_b last_lines n (λ other m. last_calls chosen (Some other) m)) in
    record { number = h.number; sites = h.sites }

comments_call_nothing : (chosen : List ℕ) (comments : List (List ℕ)) (rest : List Line) (at : ℕ)
    → ((n : ℕ) → CallsOnce chosen at_first n rest)
    → CallsOnce chosen at_first at (map comment_line comments ++ rest)
comments_call_nothing chosen [] rest at c = c at
comments_call_nothing chosen (k ∷ ks) rest at c = let h = comments_call_nothing chosen ks rest (at + 1) c in record { number = h.number; sites = h.sites }

call_is_no_loop : (steps : ℕ) (bodies : Bodies) (n : ℕ)
    → first_site (is_looped steps bodies) what.Loop (record { at = n; definition = None; called = 1 } ∷ []) ≡ None
unfolding is_looped
call_is_no_loop steps bodies n = refl

-- all four rounds
pub masks_are_clean : (chosen : List ℕ) (comments : List (List ℕ)) (layer : List ℕ) (on_a on_b : List Corners)
    → All IsRectangle on_a → All IsRectangle on_b
    → fault_of chosen (map said (lines_of_masks comments layer on_a on_b)) End ≡ None
masks_are_clean chosen comments layer on_a on_b a b =
    let commands = map said (lines_of_masks comments layer on_a on_b) in
    let definition = lines_of_definition layer on_a on_b in
    let rules = comments_are_clean chosen comments definition (definition_is_clean chosen layer on_a on_b a b) in
    let once = comments_call_nothing chosen comments definition 1 (calls_of_definition chosen layer on_a on_b) in
    rw (fault_of, rules.clean 1, once.sites, numbers_of_masks comments layer on_a on_b) (call_is_no_loop 1 (parts_from chosen at_first commands) once.number)
