use Rattle.std.proofs.Common.{◌≡◌, ◌∙◌, sym, subst}
use Rattle.dpl_groups.specs.Graph.{IsGraph}
use Rattle.dpl_calls.specs.Places.{graph_of}
use Rattle.dpl_calls.proofs.Edges.{is_graph}
use Rattle.dpl_calls.proofs.graph.groups_of.Goals as goal

pub find_groups-requires : goal.find_groups-requires
find_groups-requires c =
    let same : c.as_slice.result.now ≡ graph_of c.args.table.now = c.as_slice.ensures.value ∙ c.in_ok-calls.ensures in
    subst IsGraph (sym same) (is_graph c.args.table.now)
