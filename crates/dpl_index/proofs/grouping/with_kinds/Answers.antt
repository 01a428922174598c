use Rattle.std.proofs.Common.{arith}
use Rattle.dpl_index.proofs.GroupLemmas.{rekeyed_all}
use Rattle.dpl_index.proofs.grouping.with_kinds.Goals as goal

pub returns : goal.returns
returns c =
    let h = c.loop-place-test.false in let l = c.loop-place.auto.place-index-end in
    rekeyed_all c.args.places.now c.loop-place.place-index _ (omega arith) c.loop-place.invariant
