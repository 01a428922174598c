-- The limits of the program: the number of each, and the most that is taken.
use Rattle.std.specs.Prelude.{◌≡◌, ℕ, ◌+◌, ◌^◌}
use Rattle.dpl_limits.specs.declared.TheConstants.{MOST_LAYOUT_BYTES, MOST_PRIMITIVES, MOST_CALLS, MOST_TILES, MOST_FRAGMENTS, MOST_EDGES, MOST_REPORT_BYTES, MOST_SCRIPT_BYTES}
use Rattle.dpl_limits.specs.declared.counted.Counted.{Counted}
use Rattle.dpl_limits.specs.declared.counted.Counted.TheVariants.{LayoutBytes, Primitives, Calls, Coordinates, Tiles, Fragments, Edges, ReportBytes, ScriptBytes}

-- the number by which an answer names the limit; 8 names none
abbrev pub number_of : Counted → ℕ
number_of LayoutBytes = 1
number_of Primitives = 2
number_of Calls = 3
number_of Coordinates = 4
number_of Tiles = 5
number_of Fragments = 6
number_of Edges = 7
number_of ReportBytes = 9
number_of ScriptBytes = 10

-- the greatest magnitude of a coordinate, in grid units
abbrev pub most_coordinate : ℕ
most_coordinate = 2 ^ 30

-- the most that is taken: of coordinates the greatest magnitude
abbrev pub most_of : Counted → ℕ
most_of LayoutBytes = MOST_LAYOUT_BYTES
most_of Primitives = MOST_PRIMITIVES
most_of Calls = MOST_CALLS
most_of Coordinates = most_coordinate
most_of Tiles = MOST_TILES
most_of Fragments = MOST_FRAGMENTS
most_of Edges = MOST_EDGES
most_of ReportBytes = MOST_REPORT_BYTES
most_of ScriptBytes = MOST_SCRIPT_BYTES

-- an answer names this limit and one more than it takes, where there is a cause; what is beyond
-- is not counted
abbrev pub Passes : Counted → Type 0 → ℕ → ℕ → Type 0
Passes counted cause kind count = (kind ≡ number_of counted) × (count ≡ most_of counted + 1) × cause
