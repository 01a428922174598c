use Rattle.std.proofs.Common.{arith, length}
use Rattle.dpl_sign.proofs.ExcessLemmas.{kept_plane}
use Rattle.dpl_sign.proofs.laws.kept_edges_are_plane.Goals as goal

pub returns : goal.returns
returns c = kept_plane c.args.net.now (length c.args.net.now.graph.edges) (omega arith)
