use Rattle.dpl_euler.specs.Rows.{AreListed}
use Rattle.dpl_euler.proofs.rows.add_all.Given as goal

abbrev pub invariant-loop-edge : goal.invariant-loop-edge
invariant-loop-edge l = AreListed l.graph l.set l.edge l.nodes.items l.edges.items
