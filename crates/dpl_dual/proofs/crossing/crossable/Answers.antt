use Rattle.dpl_map.proofs.ViewLemmas.{edge_of}
use Rattle.dpl_dual.proofs.crossing.crossable.Goals as goal

pub kept-requires : goal.kept-requires
kept-requires c = edge_of c.args.graph.now c.args.map.now c.requires.map c.args.edge c.requires.inside
