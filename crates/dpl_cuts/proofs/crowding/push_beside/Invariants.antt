use Rattle.std.proofs.Common.{length}
use Rattle.dpl_cuts.specs.Tilings.{tiles_of}
use Rattle.dpl_cuts.proofs.ShutLemmas.{AddsShutBut}
use Rattle.dpl_cuts.proofs.crowding.push_beside.Given as goal

abbrev pub invariant-groups : goal.invariant-groups
invariant-groups l = AddsShutBut (tiles_of l.tiling) l.tiling.label.now l.tiling.space l.i l.reach l.free l.rest l.fn.shut.items l.shut.items

abbrev pub decreases-groups : goal.decreases-groups
decreases-groups l = length l.rest
