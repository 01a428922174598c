use Rattle.std.proofs.Common.{take, All, ◌++◌}
use Rattle.dpl_tiles.specs.Corners.{AreInRange, HasCornersOf}
use Rattle.dpl_tiles.proofs.corners.push_all.Given as goal

abbrev pub invariant-loop-prim : goal.invariant-loop-prim
invariant-loop-prim l = record {
  has : All (HasCornersOf (l.lower.items ++ l.others.items)) (take l.prim-index l.prims);
  range : AreInRange (l.lower.items ++ l.others.items);
}
