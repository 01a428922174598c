use Rattle.dpl_walks.proofs.CycleLemmas.{no_edge_at_all, cycle_there, edges_there}
use Rattle.dpl_walks.proofs.scanning.behind_cycle.Goals as goal

pub returns-in_default-short_at : goal.returns-in_default-short_at
returns-in_default-short_at c = λ after a.
    let f = c.in-Some.front in
    no_edge_at_all f.half f.start f.edges.now after c.args.text.now c.in-Some.ensures c.in_default-short_at.ensures a

pub returns-in-Some-behind_edges : goal.returns-in-Some-behind_edges
returns-in-Some-behind_edges c =
    let f = c.in-Some.front in
    cycle_there f.half f.start c.in-Some-short_at.field-0-0 c.in-Some-short_at.others.now f.edges.now c.in-Some-behind_edges.left.now c.args.text.now
    c.in-Some.ensures c.in-Some-short_at.ensures c.in-Some-behind_edges.ensures

pub returns-in-None : goal.returns-in-None
returns-in-None c = λ after a.
    let f = c.in-Some.front in
    c.in-None.ensures after (edges_there f.half f.start c.in-Some-short_at.field-0-0 c.in-Some-short_at.others.now f.edges.now after c.args.text.now
    c.in-Some.ensures c.in-Some-short_at.ensures a)
