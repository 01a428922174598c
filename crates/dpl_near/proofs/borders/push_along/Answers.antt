use Rattle.std.proofs.Common.{get_or}
use Rattle.std.proofs.lemmas.List.{get_or_default}
use Rattle.dpl_cell.proofs.BoxLemmas.{is_true, not_by_test}
use Rattle.dpl_near.proofs.BorderLemmas.{blank, along_end, along_more}
use Rattle.dpl_near.proofs.borders.push_along.Goals as goal

pub returns-then-not-are_along : goal.returns-then-not-are_along
returns-then-not-are_along c =
    let k = c.loop-k.k in
    along_end c.args.border.now c.args.borders.now k c.args.pairs.now.items c.loop-k.pairs.items (get_or c.args.borders.now k blank)
    c.requires.order c.loop-k-test.true (λ d. get_or_default c.args.borders.now k d blank c.loop-k-test.true)
    (c.first_along-start.ensures.behind k blank c.loop-k.auto.k c.loop-k-test.true)
    (not_by_test _ c.if-not-are_along.true c.are_along.ensures.1) c.loop-k.invariant

pub loop-k-preserved : goal.loop-k-preserved
loop-k-preserved c =
    let k = c.loop-k.k in
    along_more c.args.border.now c.args.borders.now k c.args.pairs.now.items c.loop-k.pairs.items _ (get_or c.args.borders.now k blank)
    c.loop-k-test.true (λ d. get_or_default c.args.borders.now k d blank c.loop-k-test.true)
    (c.are_along.ensures.0 (is_true c.if-not-are_along.false))
    (rw c.pair_of.ensures at c.in_ok-push.ensures.items) c.loop-k.invariant
