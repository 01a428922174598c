use Rattle.dpl_tiles.proofs.SideLemmas.{round_more, round_end}
use Rattle.dpl_tiles.proofs.sides.sides_from.Goals as goal

pub loop-p-preserved : goal.loop-p-preserved
loop-p-preserved c = round_more _ _ _ c.loop-p.before c.p-item.result c.side_between.result _ _ c.loop-p.invariant
    c.loop-p-test.true c.p-item.is c.side_between.ensures c.in_ok-push.ensures.items

pub returns : goal.returns
returns c = round_end _ _ _ c.loop-p.before c.side_between-2.result _ _ c.loop-p-test.false c.loop-p.invariant
    c.side_between-2.ensures c.in_ok-push-2.ensures.items
