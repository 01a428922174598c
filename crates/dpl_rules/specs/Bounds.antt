-- The integers of a command have a magnitude of at most 1,000,000,000,000. Names, comments and user extensions are not looked at.
use Rattle.std.specs.Prelude.{ℕ, Bool, true, ◌&&◌, nat_le, unsigned_abs, List, map, slice_range, None, Some, Result, Ok, Err, if◌then◌else◌}
use Rattle.std.specs.List.{list_all}
use Rattle.dpl_lex.specs.Number.{greatest}
use Rattle.dpl_lex.specs.declared.types.Span.{Span}
use Rattle.dpl_rules.specs.declared.command.Spot.{Spot}
use Rattle.dpl_rules.specs.declared.command.Transformation.{Transformation}
use Rattle.dpl_rules.specs.declared.command.Transformation.TheVariants.{Shift, MirrorX, MirrorY, Rotate}
use Rattle.dpl_rules.specs.declared.command.Command.{Command}
use Rattle.dpl_rules.specs.declared.command.Command.TheVariants.{Idle, Polygon, Box, Wire, Flash, Layer, Start, Finish, Delete, Call}
use Rattle.dpl_rules.specs.declared.what.What.{What}
use Rattle.dpl_rules.specs.declared.what.What.TheVariants.{Syntax, Number}
use Rattle.dpl_rules.specs.Forms.{form_of}

abbrev pub is_in_bounds : ℕ → Bool
is_in_bounds n = nat_le n greatest

abbrev pub is_spot_in_bounds : Spot → Bool
is_spot_in_bounds s = is_in_bounds (unsigned_abs s.x) && is_in_bounds (unsigned_abs s.y)

abbrev pub is_transformation_in_bounds : Transformation → Bool
is_transformation_in_bounds (Shift by) = is_spot_in_bounds by
is_transformation_in_bounds MirrorX = true
is_transformation_in_bounds MirrorY = true
is_transformation_in_bounds (Rotate to) = is_spot_in_bounds to

abbrev pub is_command_in_bounds : Command → Bool
is_command_in_bounds Idle = true
is_command_in_bounds (Polygon path) = list_all is_spot_in_bounds path
is_command_in_bounds (Box b) = is_in_bounds b.length && is_in_bounds b.width
    && is_spot_in_bounds b.centre && is_spot_in_bounds b.direction
is_command_in_bounds (Wire width path) = is_in_bounds width && list_all is_spot_in_bounds path
is_command_in_bounds (Flash diameter centre) = is_in_bounds diameter && is_spot_in_bounds centre
is_command_in_bounds (Layer name) = true
is_command_in_bounds (Start n scale) =
    is_in_bounds n && is_in_bounds scale.times && is_in_bounds scale.over
is_command_in_bounds Finish = true
is_command_in_bounds (Delete n) = is_in_bounds n
is_command_in_bounds (Call n transformations) =
    is_in_bounds n && list_all is_transformation_in_bounds transformations

abbrev pub bounded : Command → Result Command What
bounded c = if is_command_in_bounds c then Ok c else Err Number

-- The command of these bytes. Syntax: they have none of the forms. Number: an integer is out of bounds.
abbrev pub command_of : List ℕ → Result Command What
command_of bytes = elim (form_of bytes) [ None ↦ Err Syntax | Some c ↦ bounded c ]

-- the commands that stand at these places of a text
abbrev pub read_commands : List ℕ → List Span → List (Result Command What)
read_commands text spans = map (λ s. command_of (slice_range text s.start s.end)) spans
