use Rattle.std.proofs.Common.{take, filter}
use Rattle.std.specs.List.{AllZip}
use Rattle.dpl_tiles.specs.Bounds.{HoldsCorners}
use Rattle.dpl_tiles.specs.Finders.{is_polygon}
use Rattle.dpl_tiles.proofs.bounds.all_bounds.Given as goal

abbrev pub invariant-loop-prim : goal.invariant-loop-prim
invariant-loop-prim l = AllZip HoldsCorners (filter is_polygon (take l.prim-index l.prims)) l.bounds.items
