use Rattle.std.proofs.Common.{arith}
use Rattle.dpl_index.proofs.KindLemmas.{kinds_all}
use Rattle.dpl_index.proofs.StopLemmas.{singles_all}
use Rattle.dpl_index.proofs.stops.singles.Goals as goal

pub returns-clause-index : goal.returns-clause-index
returns-clause-index c =
    let h = c.loop-p-test.false in let l = c.loop-p.auto.p-index-end in
    singles_all _ c.args.places.now c.loop-p.p-index _ (omega arith) c.requires c.loop-p.invariant.index

pub returns-clause-kinds : goal.returns-clause-kinds
returns-clause-kinds c = kinds_all _ c.loop-p.p-index _ c.loop-p.invariant.kinds
