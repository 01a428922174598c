use Rattle.dpl_tiles.proofs.CornerLemmas.{round_none, round_more, round_all}
use Rattle.dpl_tiles.proofs.corners.push_round.Goals as goal

pub loop-p-init : goal.loop-p-init
loop-p-init c = round_none c.args.first.now c.args.rest.now c.args.corners.now.items

pub loop-p-preserved : goal.loop-p-preserved
loop-p-preserved c = round_more c.args.first.now c.args.rest.now _ c.loop-p.before c.p-item.result _ _ _
    c.loop-p-test.true c.p-item.is c.loop-p.invariant c.in_ok-push_side.ensures

pub returns : goal.returns
returns c = round_all c.args.first.now c.args.rest.now c.loop-p.p-index c.loop-p.before _ _ _ c.loop-p-test.false c.loop-p.invariant c.in_ok-push_side-2.ensures
