use Rattle.std.proofs.Common.{take, All}
use Rattle.dpl_cell.specs.Ranges.{IsInRange}
use Rattle.dpl_cover.specs.Columns.{HasEnds}
use Rattle.dpl_cover.proofs.columns.ends_of.Given as goal

abbrev pub invariant-loop-r : goal.invariant-loop-r
invariant-loop-r l = record { has : All (HasEnds l.ends.items) (take l.r-index l.boxes); range : All IsInRange l.ends.items }
