-- The forms of a command, each a line of the grammar (Mead and Conway 1980, section 4.5).
use Rattle.std.specs.Prelude.{ℕ, pos, ◌+◌, ◌-◌, ◌==◌, List, [], ◌∷◌, length, take, drop, Option, None, Some, if◌then◌else◌}
use Rattle.std.specs.List.{prefix_len}
use Rattle.dpl_lex.specs.Classes.{is_name_byte, is_digit, is_blank, drop_while}
use Rattle.dpl_lex.specs.Name.{is_name}
use Rattle.dpl_rules.specs.Readers.{◌>>=◌, or_else, unsigned_of, spot, spot_of, repeated, not_empty, letter, complete}
use Rattle.dpl_rules.specs.declared.command.Spot.{Spot}
use Rattle.dpl_rules.specs.declared.command.Scale.{Scale}
use Rattle.dpl_rules.specs.declared.command.Transformation.{Transformation}
use Rattle.dpl_rules.specs.declared.command.Transformation.TheVariants.{Shift, MirrorX, MirrorY, Rotate}
use Rattle.dpl_rules.specs.declared.command.Command.{Command}
use Rattle.dpl_rules.specs.declared.command.Command.TheVariants.{Idle, Polygon, Box, Wire, Flash, Layer, Start, Finish, Delete, Call}

-- at least one point
abbrev pub path_of : (List Spot → Command) → List ℕ → Option Command
path_of make bytes =
    let found = repeated spot_of (length bytes) bytes in
    if not_empty found.0 then complete (make found.0) found.1 else None

-- behind `P`
abbrev pub polygon_of : List ℕ → Option Command
polygon_of bytes = path_of Polygon bytes

-- behind `W`
abbrev pub wire_of : List ℕ → Option Command
wire_of bytes = do
  width ← unsigned_of bytes
  path_of (Wire width.0) width.1

-- without a direction it is (1, 0)
abbrev pub direction_of : Option (Spot × List ℕ) → List ℕ → Spot × List ℕ
direction_of None rest = (spot (pos 1) (pos 0), rest)
direction_of (Some found) rest = found

-- behind `B`
abbrev pub box_of : List ℕ → Option Command
box_of bytes = do
  length ← unsigned_of bytes
  width ← unsigned_of length.1
  centre ← spot_of width.1
  let direction = direction_of (spot_of centre.1) centre.1
  complete (Box (record {
    length = length.0;
    width = width.0;
    centre = centre.0;
    direction = direction.0;
  })) direction.1

-- behind `R`
abbrev pub flash_of : List ℕ → Option Command
flash_of bytes = do
  diameter ← unsigned_of bytes
  centre ← spot_of diameter.1
  complete (Flash diameter.0 centre.0) centre.1

-- behind `L`
abbrev pub layer_command : List ℕ → Option Command
layer_command bytes =
    let rest = drop_while is_blank bytes in
    let n = prefix_len is_name_byte rest in
    if is_name (take n rest) then complete (Layer (take n rest)) (drop n rest) else None

-- `T` point
abbrev pub shift_of : List ℕ → Option (Transformation × List ℕ)
shift_of bytes = do
  rest ← letter 84 bytes
  by ← spot_of rest
  Some (Shift by.0, by.1)

-- `M X`
abbrev pub mirror_x_of : List ℕ → Option (Transformation × List ℕ)
mirror_x_of bytes = do
  rest ← letter 77 bytes
  behind ← letter 88 rest
  Some (MirrorX, behind)

-- `M Y`
abbrev pub mirror_y_of : List ℕ → Option (Transformation × List ℕ)
mirror_y_of bytes = do
  rest ← letter 77 bytes
  behind ← letter 89 rest
  Some (MirrorY, behind)

-- `R` point
abbrev pub rotate_of : List ℕ → Option (Transformation × List ℕ)
rotate_of bytes = do
  rest ← letter 82 bytes
  to ← spot_of rest
  Some (Rotate to.0, to.1)

abbrev pub transformation_of : List ℕ → Option (Transformation × List ℕ)
transformation_of bytes =
    or_else (shift_of bytes) (or_else (mirror_x_of bytes)
    (or_else (mirror_y_of bytes) (rotate_of bytes)))

-- behind `C`: a number and any number of transformations
abbrev pub call_of : List ℕ → Option Command
call_of bytes = do
  n ← unsigned_of bytes
  let found = repeated transformation_of (length n.1) n.1
  complete (Call n.0 found.0) found.1

abbrev pub ratio_of : List ℕ → Option (Scale × List ℕ)
ratio_of bytes = do
  times ← unsigned_of bytes
  over ← unsigned_of times.1
  Some (record { times = times.0; over = over.0 }, over.1)

-- without two integers the scale is 1/1
abbrev pub scale_of : Option (Scale × List ℕ) → List ℕ → Scale × List ℕ
scale_of None rest = (record { times = 1; over = 1 }, rest)
scale_of (Some found) rest = found

-- behind `D S`
abbrev pub start_command : List ℕ → Option Command
start_command bytes = do
  n ← unsigned_of bytes
  let scale = scale_of (ratio_of n.1) n.1
  complete (Start n.0 scale.0) scale.1

-- behind `D D`
abbrev pub delete_of : List ℕ → Option Command
delete_of bytes = do
  n ← unsigned_of bytes
  complete (Delete n.0) n.1

abbrev pub where_there : {A B : Type 0} → Option A → (A → Option B) → Option B → Option B
where_there None f otherwise = otherwise
where_there (Some x) f otherwise = f x

-- behind `D`: a start, an end or a deletion
abbrev pub definition_of : List ℕ → Option Command
definition_of bytes = where_there (letter 83 bytes) start_command
    (where_there (letter 70 bytes) (complete Finish) (letter 68 bytes >>= delete_of))

-- behind `(`, in depth more parentheses: to the one that closes the comment
abbrev pub comment_of : ℕ → List ℕ → Option Command
comment_of depth [] = None
comment_of depth (b ∷ bytes) =
    if b == 40 then comment_of (depth + 1) bytes
    else if b == 41 then (if depth == 0 then complete Idle bytes else comment_of (depth - 1) bytes)
    else comment_of depth bytes

-- The form that a command's bytes have, where they have one. An empty command, a user extension and a comment do nothing.
abbrev pub form_of : List ℕ → Option Command
form_of [] = Some Idle
form_of (b ∷ bytes) =
    if is_digit b then Some Idle
    else if b == 40 then comment_of 0 bytes
    else if b == 80 then polygon_of bytes
    else if b == 66 then box_of bytes
    else if b == 87 then wire_of bytes
    else if b == 82 then flash_of bytes
    else if b == 76 then layer_command bytes
    else if b == 68 then definition_of bytes
    else if b == 67 then call_of bytes
    else None
