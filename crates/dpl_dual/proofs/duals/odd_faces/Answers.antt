use Rattle.dpl_map.specs.Views.{view_of}
use Rattle.dpl_map.proofs.ViewLemmas.{map_of}
use Rattle.dpl_dual.proofs.DualLemmas.{odd_is}
use Rattle.dpl_dual.proofs.duals.odd_faces.Goals as goal

pub parities-requires : goal.parities-requires
parities-requires c = map_of c.args.graph.now c.args.map.now c.requires

pub returns : goal.returns
returns c = odd_is c.args.graph.now (view_of c.args.map.now) _ _ _ c.in_ok-odd.ensures c.faces-faces.ensures
    (rw (← c.deref.ensures.value) at c.in_ok-test.ensures.each)
