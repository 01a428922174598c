use Rattle.std.proofs.Common.{map, take}
use Rattle.dpl_cell.specs.Places.{corners_of}
use Rattle.dpl_cuts.specs.Blocks.{AddsKept}
use Rattle.dpl_cuts.proofs.blocking.push_kept.Given as goal

abbrev pub invariant-loop-k : goal.invariant-loop-k
invariant-loop-k l = AddsKept (map corners_of l.keep) (corners_of l.tile) (take l.k-index l.kept) l.fn.found.items l.found.items
