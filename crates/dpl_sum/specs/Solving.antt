-- Parts that are solved one after another.
use Rattle.std.specs.Prelude.{◌≡◌, List, All, map}
use Rattle.dpl_parts.specs.declared.gathering.Gathered.{Gathered}
use Rattle.dpl_sum.specs.declared.combining.SolvedPart.{SolvedPart}
use Rattle.dpl_sum.specs.Laying.{solved_part}
use Rattle.dpl_sum.specs.Solved.{IsSolved}

abbrev pub part_in : SolvedPart → Gathered
part_in s = s.part

-- these parts are solved
pub record AreSolvedTo (parts : List Gathered) (solved : List SolvedPart) : Type 0 where
  pub each : All (λ s. IsSolved (solved_part s)) solved
  pub all : map part_in solved ≡ parts
