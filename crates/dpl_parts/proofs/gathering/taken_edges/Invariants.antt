use Rattle.std.proofs.Common.{◌≡◌}
use Rattle.dpl_parts.specs.Picks.{is_edge_taken, picked_below}
use Rattle.dpl_parts.proofs.gathering.taken_edges.Given as goal

abbrev pub invariant-loop-e : goal.invariant-loop-e
invariant-loop-e l = l.found.items ≡ picked_below (is_edge_taken l.taken l.edges) l.e
