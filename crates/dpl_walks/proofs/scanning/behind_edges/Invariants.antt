use Rattle.std.proofs.Common.{length}
use Rattle.dpl_walks.proofs.EdgeLemmas.{SameEdges}
use Rattle.dpl_walks.proofs.scanning.behind_edges.Given as goal

abbrev pub invariant-edges : goal.invariant-edges
invariant-edges l = SameEdges l.rest l.text

abbrev pub decreases-edges : goal.decreases-edges
decreases-edges l = length l.rest
