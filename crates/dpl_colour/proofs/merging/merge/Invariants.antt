use Rattle.dpl_colour.specs.Merges.{painted}
use Rattle.dpl_colour.proofs.ListedLemmas.{IsWalked, named}
use Rattle.dpl_colour.proofs.merging.merge.Given as goal

abbrev pub invariant-nodes : goal.invariant-nodes
invariant-nodes l = IsWalked l.fn.change l.next (painted l.fn.names l.fn.colours) l.node (painted l.names l.colours)

abbrev pub decreases-nodes : goal.decreases-nodes
decreases-nodes l = named l.fn.change.from l.names
