use Rattle.std.proofs.Common.{arith, ◌+◌, ◌^◌, length}
use Rattle.dpl_cover.proofs.CountLemmas.{small_wider}
use Rattle.dpl_cover.proofs.TallyLemmas.{both_counted}
use Rattle.dpl_cover.proofs.cover.count_both.Goals as goal

pub count_all-requires-2-clause-small : goal.count_all-requires-2-clause-small
count_all-requires-2-clause-small c = small_wider (2 ^ 56 + length c.args.begun.now) (2 ^ 57) _ _
    (omega (arith, c.requires.few)) (c.count_all.ensures.grown (2 ^ 56) c.requires.small)

pub returns : goal.returns
returns c = λ up down h. both_counted c.args.columns.now up c.args.begun.now down c.args.closed.now _ _ _ _ _ _ c.count_all.ensures c.count_all-2.ensures h
