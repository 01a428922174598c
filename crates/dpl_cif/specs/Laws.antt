-- The primitives of a text without calls.
use Rattle.std.specs.Prelude.{ℕ, ◌≡◌, ◌≤◌, length, not, Bool, true, false, ◌&&◌, is_some, List, [], ◌∷◌, ◌++◌, map, Option, None, Some, Result, Ok, Err, if◌then◌else◌}
use Rattle.std.specs.List.{list_all}
use Rattle.dpl_limits.specs.declared.TheConstants.{MOST_LAYOUT_BYTES}
use Rattle.dpl_rules.specs.declared.command.Command.{Command}
use Rattle.dpl_rules.specs.declared.command.Command.TheVariants.{Call}
use Rattle.dpl_rules.specs.declared.scope.Scope.{Scope}
use Rattle.dpl_rules.specs.declared.what.What.{What}
use Rattle.dpl_rules.specs.Rules.{at_first, after}
use Rattle.dpl_cell.specs.Outlines.{Outline}
use Rattle.dpl_calls.specs.Parts.{Part, parts_of}
use Rattle.dpl_calls.specs.Parts.Part.{Drawn, Called}
use Rattle.dpl_cif.specs.Drawn.{drawn}
use Rattle.dpl_cif.specs.Reading.{forms_of, first_fault, primitives_of}

-- no call
abbrev pub is_no_call : Result Command What → Bool
is_no_call (Ok (Call n transformations)) = false
is_no_call c = true

-- what parts draw themselves
abbrev pub own_outlines : List Part → List Outline
own_outlines [] = []
own_outlines (Drawn figure ∷ parts) = drawn figure ∷ own_outlines parts
own_outlines (Called n moves ∷ parts) = own_outlines parts

abbrev pub outside : Scope → List Outline → List Outline
outside s outlines = if is_some s.definition then [] else outlines

-- what the commands outside definitions draw, one after another
abbrev pub drawn_in_order : List ℕ → Scope → List (Result Command What) → List Outline
drawn_in_order layer s [] = []
drawn_in_order layer s (Err what ∷ rest) = drawn_in_order layer s rest
drawn_in_order layer s (Ok c ∷ rest) =
    outside s (own_outlines (parts_of s c)) ++ drawn_in_order layer (after layer s c) rest

-- a law: the primitives of a text without a fault and without calls are those of its commands outside definitions, in order
abbrev pub DrawnInOrder : Type 0
DrawnInOrder = (layer text : List ℕ) → length text ≤ MOST_LAYOUT_BYTES → first_fault layer text ≡ None →
    list_all is_no_call (forms_of text) ≡ true
    → primitives_of layer text ≡ drawn_in_order layer at_first (forms_of text)
