use Rattle.std.proofs.Common.{arith}
use Rattle.dpl_tiles.proofs.CornerLemmas.{corners_more, corners_all, none_in_range}
use Rattle.dpl_tiles.proofs.corners.push_all.Goals as goal

pub loop-prim-init : goal.loop-prim-init
loop-prim-init c = record { has = λ k d l. absurd (omega arith); range = none_in_range _ c.requires.none }

pub loop-prim-preserved : goal.loop-prim-preserved
loop-prim-preserved c = record {
  has = corners_more _ _ c.prim-item.result _ _ c.loop-prim-test.true c.prim-item.is c.in_ok-push_corners.ensures c.loop-prim.invariant.has;
  range = c.in_ok-push_corners.ensures.range c.loop-prim.invariant.range;
}

pub returns-clause-has : goal.returns-clause-has
returns-clause-has c = corners_all _ c.loop-prim.prim-index _ c.loop-prim-test.false c.loop-prim.invariant.has
