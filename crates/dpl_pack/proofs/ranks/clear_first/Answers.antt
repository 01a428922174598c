use Rattle.std.proofs.Common.{arith, refl}
use Rattle.dpl_pack.proofs.RankLemmas.{marked_below, cleared_first}
use Rattle.dpl_pack.proofs.ranks.clear_first.Goals as goal

pub bounds-inside-order : goal.bounds-inside-order
bounds-inside-order c = omega (arith, c.loop-i.auto.inside, marked_below c.args.order.now c.args.marked c.loop-i.i _ c.requires c.loop-i-test.true)

pub loop-i-preserved : goal.loop-i-preserved
loop-i-preserved c = cleared_first c.args.order.now c.loop-i.i _ c.args.inside.now c.loop-i.inside
    (omega (arith, c.loop-i-test.true, c.requires.few))
    (omega (arith, c.loop-i.auto.inside, marked_below c.args.order.now c.args.marked c.loop-i.i _ c.requires c.loop-i-test.true)) refl c.loop-i.invariant
