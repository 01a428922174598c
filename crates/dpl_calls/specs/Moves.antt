-- How a call that is kept moves what it calls.
use Rattle.std.specs.Prelude.{Option, None, Some, pos, false}
use Rattle.dpl_calls.specs.declared.placement.Placement.{Placement}

-- nothing is moved where nothing is kept
abbrev pub or_unmoved : Option Placement → Placement
or_unmoved None = record {
  swap = false;
  negate_x = false;
  negate_y = false;
  x = pos 0;
  y = pos 0;
}
or_unmoved (Some p) = p
