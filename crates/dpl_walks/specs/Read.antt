-- A cycle line that was read, as a walk with its half weight.
use Rattle.dpl_sign.specs.declared.walks.Cycle.{Cycle}
use Rattle.dpl_walks.specs.declared.cycles.WrittenCycle.{WrittenCycle}

abbrev pub cycle_of : WrittenCycle → Cycle
cycle_of c = record { half = c.half; walk = record { start = c.start; edges = c.edges } }
