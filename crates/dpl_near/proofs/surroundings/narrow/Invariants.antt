use Rattle.std.proofs.Common.{◌≡◌, take}
use Rattle.dpl_near.proofs.surroundings.narrow.Given as goal

abbrev pub invariant-loop-j : goal.invariant-loop-j
invariant-loop-j l = l.numbers.items ≡ take l.j-index l.found
