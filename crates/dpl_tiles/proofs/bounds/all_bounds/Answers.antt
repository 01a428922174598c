use Rattle.dpl_tiles.specs.Bounds.{HoldsCorners}
use Rattle.dpl_tiles.specs.Finders.{is_polygon}
use Rattle.dpl_list.proofs.Zips.{zip_all_kept}
use Rattle.dpl_tiles.proofs.PartLemmas.{bounds_more}
use Rattle.dpl_tiles.proofs.bounds.all_bounds.Goals as goal

pub loop-prim-preserved : goal.loop-prim-preserved
loop-prim-preserved c = bounds_more _ _ c.prim-item.result _ _ c.loop-prim-test.true c.prim-item.is c.in_ok-push_bounds.ensures c.loop-prim.invariant

pub returns : goal.returns
returns c = zip_all_kept HoldsCorners is_polygon _ c.loop-prim.prim-index _ c.loop-prim-test.false c.loop-prim.invariant
