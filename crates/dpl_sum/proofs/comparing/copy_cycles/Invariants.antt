use Rattle.std.proofs.Common.{◌≡◌, take}
use Rattle.dpl_sum.proofs.comparing.copy_cycles.Given as goal

abbrev pub invariant-loop-cycle : goal.invariant-loop-cycle
invariant-loop-cycle l = l.copies.items ≡ take l.cycle-index l.cycles
