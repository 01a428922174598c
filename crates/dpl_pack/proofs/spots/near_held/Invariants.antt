use Rattle.std.proofs.Common.{◌≡◌, take}
use Rattle.dpl_pack.specs.Spots.{near_held}
use Rattle.dpl_pack.proofs.spots.near_held.Given as goal

abbrev pub invariant-loop-i : goal.invariant-loop-i
invariant-loop-i l = l.near.items ≡ near_held l.value (take l.i l.ends) l.spots
