-- What a text says about one layer (Mead and Conway 1980, section 4.5).
use Rattle.std.specs.Prelude.{ℕ, ◌+◌, nat_lt, List, [], map, length, Option, None, Some, Result, if◌then◌else◌}
use Rattle.dpl_limits.specs.Limits.{most_coordinate}
use Rattle.dpl_limits.specs.declared.TheConstants.{MOST_CALLS, MOST_PRIMITIVES}
use Rattle.dpl_lex.specs.Cutting.{commands_of}
use Rattle.dpl_lex.specs.declared.types.Ending.{Ending}
use Rattle.dpl_rules.specs.declared.command.Command.{Command}
use Rattle.dpl_rules.specs.declared.what.What.{What}
use Rattle.dpl_rules.specs.Bounds.{read_commands}
use Rattle.dpl_rules.specs.Rules.{Fault, at_first}
use Rattle.dpl_cell.specs.Outlines.{Outline}
use Rattle.dpl_calls.specs.Parts.{Bodies, parts_from}
use Rattle.dpl_calls.specs.Loops.{numbers_from, fault_of}
use Rattle.dpl_calls.specs.Unfolding.{figures_of}
use Rattle.dpl_calls.specs.Totals.{total_of, own_calls, own_weight, shown}
use Rattle.dpl_cif.specs.Drawn.{drawn, reach}

-- the finished commands, each by its form or with the rule that it breaks
abbrev pub forms_of : List ℕ → List (Result Command What)
forms_of text = read_commands text (commands_of text).spans

-- how the text ends
abbrev pub ending_of : List ℕ → Ending
ending_of text = (commands_of text).ending

-- the first broken rule, with its command: in four rounds, in each the first command, at a command the first rule
abbrev pub first_fault : List ℕ → List ℕ → Option Fault
first_fault layer text = fault_of layer (forms_of text) (ending_of text)

-- the parts of each definition, and of what stands outside
abbrev pub bodies_in : List ℕ → List ℕ → Bodies
bodies_in layer text = parts_from layer at_first (forms_of text)

-- where no call leads back, no call is deeper
abbrev pub depth_of : List ℕ → ℕ
depth_of text = length (numbers_from [] (forms_of text)) + 1

-- the boxes and polygons of the layer after all calls, in the order in which these are carried out
abbrev pub primitives_of : List ℕ → List ℕ → List Outline
primitives_of layer text =
    map drawn (figures_of (depth_of text) (bodies_in layer text) (λ c. c)
    (bodies_in layer text None))

-- how many primitives these are, a polygon counted as many times as it has points
abbrev pub primitive_count : List ℕ → List ℕ → ℕ
primitive_count layer text =
    total_of own_weight (depth_of text) (bodies_in layer text) (bodies_in layer text None)

-- how many calls are carried out
abbrev pub call_count : List ℕ → List ℕ → ℕ
call_count layer text = total_of own_calls (depth_of text) (bodies_in layer text)
    (bodies_in layer text None)

-- what a text gives: a fault, a limit with its count, or primitives
pub data Reading : Type 0 where
  Faulty : Fault → Reading
  TooMany : ℕ → Reading
  TooManyCalls : ℕ → Reading
  TooFar : ℕ → Reading
  Good : List Outline → Reading

-- the limits, in the order in which they are tried
abbrev pub within_limits : ℕ → ℕ → List Outline → Reading
within_limits primitives calls outlines =
    if nat_lt MOST_PRIMITIVES primitives then TooMany (shown primitives)
    else if nat_lt MOST_CALLS calls then TooManyCalls (shown calls)
    else if nat_lt most_coordinate (reach outlines) then TooFar (shown (reach outlines))
    else Good outlines

abbrev pub or_within : Option Fault → Reading → Reading
or_within (Some f) r = Faulty f
or_within None r = r

-- the first fault, or the first limit that is passed, or the primitives
abbrev pub reading : List ℕ → List ℕ → Reading
reading layer text = or_within (first_fault layer text)
    (within_limits (primitive_count layer text) (call_count layer text) (primitives_of layer text))
