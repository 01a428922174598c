use Rattle.std.proofs.Common.{take}
use Rattle.dpl_tiles.specs.Sides.{AddsBetween}
use Rattle.dpl_tiles.proofs.rows.push_polygons.Given as goal

abbrev pub invariant-loop-i : goal.invariant-loop-i
invariant-loop-i l = AddsBetween l.sides (take l.i-index l.found) l.y l.window.left l.window.right l.fn.parts.items l.parts.items
