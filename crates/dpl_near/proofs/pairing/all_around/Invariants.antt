use Rattle.std.proofs.Common.{map}
use Rattle.dpl_cell.specs.Places.{corners_of}
use Rattle.dpl_near.specs.Pairs.{ArePairedBefore}
use Rattle.dpl_near.proofs.pairing.all_around.Given as goal

abbrev pub invariant-loop-place : goal.invariant-loop-place
invariant-loop-place l = ArePairedBefore (record { rects = map corners_of l.rects; shape = l.shape; reach = l.reach })
    l.index.order l.place l.pairs.keys.items l.pairs.others.items
