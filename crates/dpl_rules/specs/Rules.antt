-- The rules that one command can break, in their order: one definition a rule.
use Rattle.std.specs.Prelude.{ℕ, ◌+◌, Bool, true, false, not, ◌&&◌, ◌||◌, ◌==◌, List, [], ◌∷◌, ◌++◌, Option, None, Some, Result, Ok, Err, is_some, if◌then◌else◌}
use Rattle.std.specs.List.{list_all, list_any}
use Rattle.std.specs.Str.{bytes_eq}
use Rattle.dpl_lex.specs.declared.types.Ending.{Ending}
use Rattle.dpl_lex.specs.declared.types.Ending.TheVariants.{End, NoEnd, Paren}
use Rattle.dpl_rules.specs.declared.command.Scale.{Scale}
use Rattle.dpl_rules.specs.declared.command.Transformation.{Transformation}
use Rattle.dpl_rules.specs.declared.command.Transformation.TheVariants.{Shift, Rotate}
use Rattle.dpl_rules.specs.declared.command.Command.{Command}
use Rattle.dpl_rules.specs.declared.command.Command.TheVariants.{Polygon, Box, Wire, Flash, Layer, Start, Finish, Delete, Call}
use Rattle.dpl_rules.specs.declared.scope.Scope.{Scope}
use Rattle.dpl_rules.specs.declared.what.What.{What}
use Rattle.dpl_rules.specs.declared.what.What.TheVariants as what
use Rattle.dpl_rules.specs.Figures.{box_extent, legs, is_spot_on_grid, is_extent_on_grid, is_straight, slants, slants_round}

-- outside definitions, and without a scale of its own
abbrev pub one_to_one : Scale
one_to_one = record { times = 1; over = 1 }

abbrev pub at_first : Scope
at_first = record { definition = None; layer = None; outer = None; scale = one_to_one }

-- What is in force behind a command. Each definition begins with no layer set; after its end the layer set outside is in force again.
abbrev pub after : List ℕ → Scope → Command → Scope
after chosen s (Layer name) = record s { layer = Some (bytes_eq name chosen) }
after chosen s (Start n scale) =
    record { definition = Some n; layer = None; outer = s.layer; scale = scale }
after chosen s Finish = record at_first { layer = s.outer }
after chosen s c = s

abbrev pub is_chosen : Option Bool → Bool
is_chosen None = false
is_chosen (Some b) = b

-- a definition start inside a definition, or a definition end outside
abbrev pub breaks_nest : Scope → Command → Bool
breaks_nest s (Start n scale) = is_some s.definition
breaks_nest s Finish = not (is_some s.definition)
breaks_nest s c = false

-- a definition start with a number that an earlier one has
abbrev pub breaks_twice : List ℕ → Command → Bool
breaks_twice seen (Start n scale) = list_any (λ m. m == n) seen
breaks_twice seen c = false

abbrev pub turns_askew : Transformation → Bool
turns_askew (Rotate to) = not (is_straight to)
turns_askew t = false

-- the direction of a box on the chosen layer, or of an `R` of any call, is (0, 0) or on no axis
abbrev pub breaks_angle : Scope → Command → Bool
breaks_angle s (Box b) = is_chosen s.layer && not (is_straight b.direction)
breaks_angle s (Call n transformations) = list_any turns_askew transformations
breaks_angle s c = false

abbrev pub is_figure : Command → Bool
is_figure (Polygon path) = true
is_figure (Box b) = true
is_figure (Wire width path) = true
is_figure (Flash diameter centre) = true
is_figure c = false

-- a polygon, box, wire or round flash while no layer is set
abbrev pub breaks_layerless : Scope → Command → Bool
breaks_layerless s c = is_figure c && not (is_some s.layer)

-- a polygon or wire on the chosen layer with two points that follow one another and differ in both coordinates
abbrev pub breaks_slant : Scope → Command → Bool
breaks_slant s (Polygon path) = is_chosen s.layer && slants_round path
breaks_slant s (Wire width path) = is_chosen s.layer && slants path
breaks_slant s c = false

abbrev pub shifts_off : Scale → Transformation → Bool
shifts_off scale (Shift by) = not (is_spot_on_grid scale by)
shifts_off scale t = false

-- a corner of a figure on the chosen layer, or a `T` of any call, is no whole number of grid units
abbrev pub breaks_off_grid : Scope → Command → Bool
breaks_off_grid s (Polygon path) =
    is_chosen s.layer && not (list_all (is_spot_on_grid s.scale) path)
breaks_off_grid s (Box b) = is_chosen s.layer && not (is_extent_on_grid s.scale (box_extent b))
breaks_off_grid s (Wire width path) =
    is_chosen s.layer && not (list_all (is_extent_on_grid s.scale) (legs width path))
breaks_off_grid s (Call n transformations) = list_any (shifts_off s.scale) transformations
breaks_off_grid s c = false

-- a round flash on the chosen layer
abbrev pub breaks_round : Scope → Command → Bool
breaks_round s (Flash diameter centre) = is_chosen s.layer
breaks_round s c = false

-- a definition deletion
abbrev pub breaks_delete : Command → Bool
breaks_delete (Delete n) = true
breaks_delete c = false

-- a definition start with a 0 in its scale
abbrev pub breaks_scale : Command → Bool
breaks_scale (Start n scale) = scale.times == 0 || scale.over == 0
breaks_scale c = false

abbrev pub first_broken : List (Bool × What) → Option What
first_broken [] = None
first_broken (rule ∷ rules) = if rule.0 then Some rule.1 else first_broken rules

-- the first rule that a command breaks; its form and its bounds were tried before
abbrev pub broken_rule : Scope → Bool → Command → Option What
broken_rule s twice c = first_broken (
    (breaks_nest s c, what.Nest) ∷
    (twice, what.Twice) ∷
    (breaks_angle s c, what.Angle) ∷
    (breaks_layerless s c, what.Layerless) ∷
    (breaks_slant s c, what.Slant) ∷
    (breaks_off_grid s c, what.OffGrid) ∷
    (breaks_round s c, what.Round) ∷
    (breaks_delete c, what.Delete) ∷
    (breaks_scale c, what.Scale) ∷ [])

-- a fault, and the number of its command from 1
pub record Fault : Type 0 where
  pub command : ℕ
  pub what : What

abbrev pub fault : ℕ → What → Fault
fault at what = record { command = at; what = what }

-- the definitions begun so far
abbrev pub with_start : Command → List ℕ → List ℕ
with_start (Start n scale) seen = seen ++ n ∷ []
with_start c seen = seen

-- the end command inside a definition, or a comment that is never closed; either counts as the last command
abbrev pub fault_at_end : Scope → ℕ → Ending → Option Fault
fault_at_end s at End = if is_some s.definition then Some (fault at what.Nest) else None
fault_at_end s at NoEnd = None
fault_at_end s at Paren = Some (fault at what.Syntax)

abbrev pub or_later : ℕ → Option What → Option Fault → Option Fault
or_later at (Some what) later = Some (fault at what)
or_later at None later = later

-- The first round: the first command, from this number on, that breaks a rule.
abbrev pub rule_fault : List ℕ → Scope → List ℕ → ℕ → List (Result Command What) → Ending →
    Option Fault
rule_fault chosen s seen at [] ending = fault_at_end s at ending
rule_fault chosen s seen at (Err what ∷ rest) ending = Some (fault at what)
rule_fault chosen s seen at (Ok c ∷ rest) ending =
    or_later at (broken_rule s (breaks_twice seen c) c)
    (rule_fault chosen (after chosen s c) (with_start c seen) (at + 1) rest ending)

-- The second round: the text has no end.
abbrev pub end_fault : ℕ → Ending → Option Fault
end_fault at NoEnd = Some (fault at what.NoEnd)
end_fault at End = None
end_fault at Paren = None
