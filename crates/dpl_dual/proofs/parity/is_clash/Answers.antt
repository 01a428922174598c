use Rattle.std.proofs.Common.{arith, ◌/◌}
use Rattle.dpl_map.proofs.ViewLemmas.{edge_of}
use Rattle.dpl_dual.proofs.parity.is_clash.Goals as goal

pub kept-requires : goal.kept-requires
kept-requires c = edge_of c.args.graph.now c.args.map.now c.requires.map (c.args.dart / 2) (omega (arith, c.requires.inside))
