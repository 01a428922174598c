use Rattle.dpl_walks.proofs.EdgeLemmas.{same_behind, end_alone, end_is_edges}
use Rattle.dpl_walks.proofs.scanning.behind_edges.Goals as goal

pub edges-preserved : goal.edges-preserved
edges-preserved c = same_behind c.in-Some.field-0-0 c.in-Some.others.now c.edges.rest.now c.args.text.now c.in-Some.ensures c.edges.invariant

pub returns-in-Some-behind : goal.returns-in-Some-behind
returns-in-Some-behind c =
    c.edges.invariant.on c.in-Some-behind.left.now (end_is_edges c.in-Some-behind.left.now c.edges.rest.now c.in-Some-behind.ensures)

pub returns-in-None : goal.returns-in-None
returns-in-None c = λ after a. end_alone after c.edges.rest.now c.in_default.ensures c.in-None.ensures (c.edges.invariant.back after a)
