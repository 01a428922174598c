use Rattle.std.proofs.Common.{◌≡◌, ◌++◌, take}
use Rattle.std.specs.List.{flat_map}
use Rattle.dpl_pack.specs.Spots.{near_one}
use Rattle.dpl_pack.proofs.spots.add_row.Given as goal

abbrev pub invariant-loop-i : goal.invariant-loop-i
invariant-loop-i l = l.near.items ≡ l.fn.near.items ++ flat_map (near_one l.value l.end) (take l.i l.row)
