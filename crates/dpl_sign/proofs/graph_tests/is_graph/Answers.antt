use Rattle.dpl_sign.proofs.BondLemmas.{graph_test}
use Rattle.dpl_sign.proofs.graph_tests.is_graph.Goals as goal

pub returns : goal.returns
returns c = graph_test _ _ _ _ c.are_below-inside.ensures c.are_bonds_first-first.ensures
