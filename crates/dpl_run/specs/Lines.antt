-- How a run of the program ends: its exit status and its lines.
use Rattle.std.specs.Prelude.{ℕ, List, [], ◌∷◌, ◌++◌, Option, None, Some, codes, decimal}
use Rattle.std.specs.Fmt.{signed_decimal}
use Rattle.dpl_rules.specs.declared.what.What.{What}
use Rattle.dpl_rules.specs.declared.what.What.TheVariants as what
use Rattle.dpl_euler.specs.declared.types.Bar.{Bar}
use Rattle.dpl_euler.specs.declared.types.Crossing.{Crossing}
use Rattle.dpl_euler.specs.declared.types.With.{With}
use Rattle.dpl_euler.specs.declared.types.With.TheVariants.{Link, Fragment}
use Rattle.dpl_run.specs.declared.status.Status.{Status}
use Rattle.dpl_run.specs.declared.status.Status.TheVariants.{Done, Rejected, Usage, Limit, Layout, Script, ReadFault, WriteFault, NoMemory}

-- the exit status
abbrev pub code_of : Status → ℕ
code_of Done = 0
code_of (Rejected reason place found wanted) = 1
code_of (Usage kind) = 2
code_of (Layout command what) = 3
code_of (Limit kind count) = 4
code_of ReadFault = 5
code_of WriteFault = 6
code_of NoMemory = 7
code_of (Script line kind) = 8

-- the number of a rule of the layout
abbrev pub what_number : What → ℕ
what_number what.Syntax = 1
what_number what.Number = 2
what_number what.Nest = 3
what_number what.Twice = 4
what_number what.Angle = 5
what_number what.Layerless = 6
what_number what.Slant = 7
what_number what.OffGrid = 8
what_number what.Round = 9
what_number what.Delete = 10
what_number what.Scale = 11
what_number what.Missing = 12
what_number what.Loop = 13
what_number what.NoEnd = 14

-- the line on the error output
abbrev pub line_of : Status → List ℕ
line_of Done = []
line_of (Rejected reason place found wanted) =
    codes "dpl: rejected " ++ decimal reason ++ codes " place " ++ decimal place ++ codes " found "
    ++ signed_decimal found ++ codes " wanted " ++ signed_decimal wanted ++ codes "\n"
line_of (Usage kind) = codes "dpl: usage " ++ decimal kind ++ codes "\n"
line_of (Layout command rule) = codes "dpl: layout " ++ decimal (what_number rule)
    ++ codes " at command " ++ decimal command ++ codes "\n"
line_of (Limit kind count) =
    codes "dpl: limit " ++ decimal kind ++ codes " count " ++ decimal count ++ codes "\n"
line_of (Script line kind) =
    codes "dpl: script " ++ decimal kind ++ codes " at line " ++ decimal line ++ codes "\n"
line_of ReadFault = codes "dpl: read fault\n"
line_of WriteFault = codes "dpl: write fault\n"
line_of NoMemory = codes "dpl: no memory\n"

-- what `check` writes of a good report
abbrev pub yes_line : ℕ → ℕ → List ℕ
yes_line cost bound = codes "yes cost " ++ decimal cost ++ codes " bound " ++ decimal bound
    ++ codes "\n"

-- what `load` writes of a made layout
abbrev pub load_line : ℕ → ℕ → ℕ → ℕ → ℕ → List ℕ
load_line fragments edges cost bound aside = codes "fragments " ++ decimal fragments
    ++ codes " edges " ++ decimal edges ++ codes " cost " ++ decimal cost ++ codes " bound "
    ++ decimal bound ++ codes " aside " ++ decimal aside ++ codes "\n"

-- an edge, and a larger edge or a fragment that its link crosses
abbrev pub crossing_text : ℕ → With → List ℕ
crossing_text edge (Link other) = codes " link " ++ decimal edge ++ codes " " ++ decimal other
crossing_text edge (Fragment other) =
    codes " fragment " ++ decimal edge ++ codes " " ++ decimal other

-- what `cross` writes of the excess, and of a crossing
abbrev pub excess_line : ℕ → Option Crossing → List ℕ
excess_line excess None = codes "excess " ++ decimal excess ++ codes " none\n"
excess_line excess (Some crossing) = codes "excess " ++ decimal excess
    ++ crossing_text crossing.edge crossing.other ++ codes "\n"

-- each number behind a blank
abbrev pub numbers_text : List ℕ → List ℕ
numbers_text [] = []
numbers_text (number ∷ numbers) = codes " " ++ decimal number ++ numbers_text numbers

-- what `cross` writes of a bar: its edge, the darts of its face and the edges of its walk
abbrev pub bar_line : Option Bar → List ℕ
bar_line None = []
bar_line (Some bar) = codes "bar " ++ decimal bar.edge ++ codes " face" ++ numbers_text bar.face
    ++ codes " walk" ++ numbers_text bar.walk ++ codes "\n"

abbrev pub cross_lines : ℕ → Option Crossing → Option Bar → List ℕ
cross_lines excess crossing bar = excess_line excess crossing ++ bar_line bar
