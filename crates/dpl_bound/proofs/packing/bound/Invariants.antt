use Rattle.std.proofs.Common.{take, ◌≡◌}
use Rattle.dpl_sign.specs.Packings.{bound_of}
use Rattle.dpl_bound.proofs.packing.bound.Given as goal

abbrev pub invariant-loop-k : goal.invariant-loop-k
invariant-loop-k l = l.sum ≡ bound_of (take l.k l.cycles)
