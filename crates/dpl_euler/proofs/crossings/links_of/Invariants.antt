use Rattle.dpl_euler.specs.Links.{AreLinks}
use Rattle.dpl_euler.proofs.crossings.links_of.Given as goal

abbrev pub invariant-loop-edge : goal.invariant-loop-edge
invariant-loop-edge l = AreLinks l.fragments l.net l.links.items l.edge
