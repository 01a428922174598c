use Rattle.dpl_tiles.specs.Finders.{is_polygon}
use Rattle.dpl_tiles.specs.Sides.{AreSides}
use Rattle.dpl_list.proofs.Zips.{zip_all_kept}
use Rattle.dpl_tiles.proofs.PartLemmas.{sides_more}
use Rattle.dpl_tiles.proofs.finder.all_sides.Goals as goal

pub loop-prim-preserved : goal.loop-prim-preserved
loop-prim-preserved c = sides_more _ _ c.prim-item.result _ _ c.loop-prim-test.true c.prim-item.is c.in_ok-push_sides.ensures c.loop-prim.invariant

pub returns : goal.returns
returns c = zip_all_kept AreSides is_polygon _ c.loop-prim.prim-index _ c.loop-prim-test.false c.loop-prim.invariant
