use Rattle.std.proofs.Common.{[], sym, ◌∙◌}
use Rattle.dpl_walks.proofs.EdgeLemmas.{edges_back, first_edge, no_edge}
use Rattle.dpl_walks.proofs.cycles.Edges.next_edge.Goals as goal

pub invariant_of-self : goal.invariant_of-self
invariant_of-self c = edges_back c.in-Some.edge c.in-Some.others.now [] c.self.inside.rest.now c.self.invariant c.in-Some.ensures

pub returns-in-None : goal.returns-in-None
returns-in-None c = sym c.self.view_is ∙ no_edge c.self.inside.rest.now c.self.invariant c.in-None.ensures

pub returns-in-Some : goal.returns-in-Some
returns-in-Some c = sym c.self.view_is ∙ first_edge c.in-Some.edge c.in-Some.others.now c.self.inside.rest.now c.self.invariant c.in-Some.ensures
