use Rattle.std.proofs.Common.{◌≡◌, map, take}
use Rattle.dpl_parts.specs.Shares.{all_cycles}
use Rattle.dpl_sum.specs.Laying.{solved_part}
use Rattle.dpl_sum.proofs.combining.cycles_of.Given as goal

abbrev pub invariant-loop-part : goal.invariant-loop-part
invariant-loop-part l = l.found.items ≡ all_cycles (map solved_part (take l.part-index l.parts))
