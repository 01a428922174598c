use Rattle.std.proofs.Common.{ap, subst}
use Rattle.dpl_flood.specs.declared.nodes.Node.{Node}
use Rattle.dpl_flood.specs.Arenas.{start_of, end_of}
use Rattle.dpl_flood.specs.Joins.{IsNoted}
use Rattle.dpl_flood.proofs.TiedLemmas.{tied_over}
use Rattle.dpl_flood.proofs.meeting.tie.Goals as goal

pub returns-clause-tied : goal.returns-clause-tied
returns-clause-tied c = λ d m.
    let j = c.join_over-join.result in
    tied_over d c.args.state.now c.args.ahead j c.note.new.self m c.join_over-join.ensures.first c.join_over-join.ensures.second
    c.join_over-join.ensures.way
    (subst (λ z. IsNoted c.args.state.now.joins c.note.new.self (start_of z j) (end_of z j) j) c.nodes.ensures c.in_ok-note.ensures.noted)
    (c.node-from.result.member, c.node-to.result.member) (ap (λ (y : Node). y.member) c.node-from.ensures) (ap (λ (y : Node). y.member) c.node-to.ensures)
