use Rattle.std.proofs.Common.{map}
use Rattle.dpl_sum.specs.Laying.{solved_part, AgreeBelow}
use Rattle.dpl_sum.proofs.combining.lay_all.Given as goal

abbrev pub invariant-loop-i : goal.invariant-loop-i
invariant-loop-i l = AgreeBelow l.colours (map solved_part l.parts) l.i
