use Rattle.std.proofs.Common.{◌≡◌, map, take}
use Rattle.dpl_dual.specs.declared.crosses.Cross.{Cross}
use Rattle.dpl_dual.proofs.naming.sides.Given as goal

abbrev pub invariant-loop-way : goal.invariant-loop-way
invariant-loop-way l = l.sides.items ≡ map (λ (x : Cross). (x.f, x.g)) (take l.way-index l.ways)
