use Rattle.std.proofs.Common.{arith, ◌<◌, subst}
use Rattle.dpl_flood.specs.Arenas.{start_of, end_of}
use Rattle.dpl_flood.specs.Joins.{IsNoted}
use Rattle.dpl_flood.proofs.NotedLemmas.{Puts, noted_low, noted_high, noted_joins}
use Rattle.dpl_flood.proofs.joins.Joins.note.Goals as goal

pub returns-in_ok-insert-clause-noted : goal.returns-in_ok-insert-clause-noted
returns-in_ok-insert-clause-noted c =
    let nodes = c.args.nodes.now in
    let puts : Puts c.self.inside.at.entries c.insert.new.self.entries (start_of nodes c.args.join, end_of nodes c.args.join) c.args.join =
    λ q. c.in_ok-insert.ensures.updates.0 q in
    subst (λ z. IsNoted z c.insert.new.self.entries (start_of nodes c.args.join) (end_of nodes c.args.join) c.args.join) c.self.view_is
    (noted_low c.self.inside.at.entries c.insert.new.self.entries (start_of nodes c.args.join) (end_of nodes c.args.join) c.args.join c.if-start-end.true puts)

pub returns-in_ok-insert-clause-kept : goal.returns-in_ok-insert-clause-kept
returns-in_ok-insert-clause-kept c = λ ways is all.
    noted_joins ways c.args.nodes.now c.args.self.now c.insert.new.self.entries c.args.join (returns-in_ok-insert-clause-noted c) is all

pub returns-in_ok-insert-2-clause-noted : goal.returns-in_ok-insert-2-clause-noted
returns-in_ok-insert-2-clause-noted c =
    let nodes = c.args.nodes.now in
    let puts : Puts c.self.inside.at.entries c.insert-else-start-end.new.self.entries (end_of nodes c.args.join, start_of nodes c.args.join) c.turned.result =
    λ q. c.in_ok-insert-2.ensures.updates.0 q in
    let here = subst (Puts c.self.inside.at.entries c.insert-else-start-end.new.self.entries (end_of nodes c.args.join, start_of nodes c.args.join)) c.turned.ensures puts in
    let less : end_of nodes c.args.join < start_of nodes c.args.join = omega (arith, c.if-start-end.false, c.requires.differ) in
    subst (λ z. IsNoted z c.insert-else-start-end.new.self.entries (start_of nodes c.args.join) (end_of nodes c.args.join) c.args.join) c.self.view_is
    (noted_high c.self.inside.at.entries c.insert-else-start-end.new.self.entries (start_of nodes c.args.join) (end_of nodes c.args.join) c.args.join less here)

pub returns-in_ok-insert-2-clause-kept : goal.returns-in_ok-insert-2-clause-kept
returns-in_ok-insert-2-clause-kept c = λ ways is all.
    noted_joins ways c.args.nodes.now c.args.self.now c.insert-else-start-end.new.self.entries c.args.join (returns-in_ok-insert-2-clause-noted c) is all
