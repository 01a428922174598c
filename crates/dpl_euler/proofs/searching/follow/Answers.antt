use Rattle.std.proofs.Common.{arith, rules, ◌≡◌, false, ap, ◌∙◌, length}
use Rattle.std.proofs.lemmas.List.{get_or_read}
use Rattle.dpl_sign.specs.Walks.{edge_at, across}
use Rattle.dpl_euler.specs.declared.searching.Step.{Step}
use Rattle.dpl_euler.specs.Searches.{is_reached, no_step, step_at}
use Rattle.dpl_euler.proofs.SearchLemmas.{few_steps, take_step}
use Rattle.dpl_euler.proofs.searching.follow.Goals as goal

pub overflow_cast-next : goal.overflow_cast-next
overflow_cast-next c =
    let size : c.len-next.result ≡ length c.args.steps.now.items = search rules in
    omega (arith, size, few_steps _ _ _ _ _ c.requires.steps, c.args.search.now.graph.now.few_nodes)

pub returns-clause-steps : goal.returns-clause-steps
returns-clause-steps c =
    let size : c.len-next.result ≡ length c.args.steps.now.items = search rules in
    let new : is_reached c.args.places.now c.other_end-node.result ≡ false = search rules in
    let read : c.index.result.now ≡ step_at c.args.steps.now.items c.args.place = get_or_read _ _ _ c.requires.place c.index.ensures no_step in
    rw (c.in_ok-push.ensures.items, size) (take_step c.args.search.now.graph.now c.args.search.now.set.now c.args.search.now.goal c.args.steps.now.items
    c.args.places.now c.args.place c.args.edge c.other_end-node.result c.requires.steps c.requires.place
    c.requires.edge (c.other_end-node.ensures.value ∙
    ap (λ (z : Step). across (edge_at c.args.search.now.graph.now c.args.edge) z.node) read) c.other_end-node.ensures.range
    new)
