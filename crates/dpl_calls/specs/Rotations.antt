-- Quarter turns about the origin: what keeps the sense of rotation goes with them, a mirror exchanges them.
use Rattle.std.specs.Prelude.{neg_ℤ}
use Rattle.dpl_calls.specs.declared.figure.Corner.{Corner}
use Rattle.dpl_calls.specs.Parts.{corner}

-- counterclockwise
abbrev pub quarter_left : Corner → Corner
quarter_left c = corner (neg_ℤ c.y) c.x

-- clockwise
abbrev pub quarter_right : Corner → Corner
quarter_right c = corner c.y (neg_ℤ c.x)
