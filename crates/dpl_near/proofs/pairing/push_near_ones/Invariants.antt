use Rattle.std.proofs.Common.{map}
use Rattle.dpl_cell.specs.Places.{corners_of}
use Rattle.dpl_near.proofs.PairLemmas.{PairedWith}
use Rattle.dpl_near.proofs.pairing.push_near_ones.Given as goal

abbrev pub invariant-loop-j : goal.invariant-loop-j
invariant-loop-j l = PairedWith (record { rects = map corners_of l.rects; reach = l.reach })
    l.i l.found l.j-index l.fn.pairs.keys.items l.fn.pairs.others.items l.pairs.keys.items l.pairs.others.items
