use Rattle.std.proofs.Common.{◌≡◌, ◌++◌, map, take}
use Rattle.dpl_parts.specs.Shares.{renumbered}
use Rattle.dpl_sum.specs.Laying.{solved_part}
use Rattle.dpl_sum.proofs.combining.add_cycles.Given as goal

abbrev pub invariant-loop-cycle : goal.invariant-loop-cycle
invariant-loop-cycle l = l.found.items ≡ l.initial.found.items ++ map (renumbered (solved_part l.part)) (take l.cycle-index l.cycles)
