use Rattle.std.proofs.Common.{take, ◌≡◌}
use Rattle.dpl_tiles.specs.Finders.{boxes_of}
use Rattle.dpl_tiles.proofs.finder.boxes_of.Given as goal

abbrev pub invariant-loop-prim : goal.invariant-loop-prim
invariant-loop-prim l = l.boxes.items ≡ boxes_of (take l.prim-index l.prims)
