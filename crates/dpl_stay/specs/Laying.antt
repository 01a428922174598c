-- Old colours laid over new ones.
use Rattle.std.specs.Prelude.{ℕ, Bool, List, Option, Some, None, if◌then◌else◌}
use Rattle.dpl_sign.specs.Colourings.{colour_of}

-- the old colour of the partner where the node is taken, and its own colour otherwise
abbrev pub chosen : Bool → Option ℕ → List Bool → Bool → Bool
chosen taken None before own = own
chosen taken (Some w) before own = if taken then colour_of before w else own
