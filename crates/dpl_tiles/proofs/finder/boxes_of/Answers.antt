use Rattle.dpl_tiles.proofs.PartLemmas.{boxes_more, boxes_all}
use Rattle.dpl_tiles.proofs.finder.boxes_of.Goals as goal

pub loop-prim-preserved : goal.loop-prim-preserved
loop-prim-preserved c = boxes_more _ _ c.prim-item.result _ _ c.loop-prim-test.true c.prim-item.is c.in_ok-push_box.ensures c.loop-prim.invariant

pub returns : goal.returns
returns c = boxes_all _ c.loop-prim.prim-index _ c.loop-prim-test.false c.loop-prim.invariant
