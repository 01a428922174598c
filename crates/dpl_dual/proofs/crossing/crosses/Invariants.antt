use Rattle.std.proofs.Common.{◌≡◌}
use Rattle.dpl_map.specs.Views.{view_of}
use Rattle.dpl_dual.specs.Duals.{crosses_below}
use Rattle.dpl_dual.proofs.crossing.crosses.Given as goal

abbrev pub invariant-loop-i : goal.invariant-loop-i
invariant-loop-i l = l.found.items ≡ crosses_below l.graph (view_of l.map) l.i
