-- The eight places around a node.
use Rattle.std.specs.Prelude.{ℕ, ◌%◌, ◌==◌, Bool}

-- south-west, south-east, north-east and north-west
abbrev pub is_corner : ℕ → Bool
is_corner side = side % 2 == 0
