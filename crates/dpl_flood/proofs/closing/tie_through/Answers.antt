use Rattle.std.proofs.Common.{◌+◌, ◌<◌, ◌^◌, sym, subst}
use Rattle.dpl_flood.specs.Arenas.{AreNodes, IsJoin, IsThrough, start_of, end_of, join_length}
use Rattle.dpl_flood.specs.Joins.{IsNoted}
use Rattle.dpl_flood.proofs.CloseLemmas.{joined_at, joined_short, tied_through}
use Rattle.dpl_flood.proofs.closing.tie_through.Goals as goal

pub through-requires-clause-first : goal.through-requires-clause-first
through-requires-clause-first c =
    let x = c.args.state.now in
    let a = joined_at c.args.dual.now x c.args.single c.args.sides c.join_of-first.result c.join_of-second.result c.requires.forest c.requires.sides
    c.join_of-first.ensures c.join_of-second.ensures in
    subst (λ z. IsJoin z x.arena c.join_of-first.result) (sym c.as_slice.ensures) a.one

pub through-requires-clause-second : goal.through-requires-clause-second
through-requires-clause-second c =
    let x = c.args.state.now in
    let a = joined_at c.args.dual.now x c.args.single c.args.sides c.join_of-first.result c.join_of-second.result c.requires.forest c.requires.sides
    c.join_of-first.ensures c.join_of-second.ensures in
    subst (λ z. IsJoin z x.arena c.join_of-second.result) (sym c.as_slice.ensures) a.two

pub through-requires-clause-between : goal.through-requires-clause-between
through-requires-clause-between c =
    (joined_at c.args.dual.now c.args.state.now c.args.single c.args.sides c.join_of-first.result c.join_of-second.result c.requires.forest c.requires.sides
    c.join_of-first.ensures c.join_of-second.ensures).between

pub through-requires-clause-fits : goal.through-requires-clause-fits
through-requires-clause-fits c =
    let x = c.args.state.now in
    let a = joined_at c.args.dual.now x c.args.single c.args.sides c.join_of-first.result c.join_of-second.result c.requires.forest c.requires.sides
    c.join_of-first.ensures c.join_of-second.ensures in
    subst (λ z. join_length z x.arena c.join_of-first.result + join_length z x.arena c.join_of-second.result < 2 ^ 64) (sym c.as_slice.ensures)
    (joined_short c.args.dual.now x c.args.single c.args.sides c.join_of-first.result c.join_of-second.result c.requires.forest c.requires.sides a)

pub returns : goal.returns
returns c =
    let x = c.args.state.now in
    let j = c.in_ok-join.join in
    let a = joined_at c.args.dual.now x c.args.single c.args.sides c.join_of-first.result c.join_of-second.result c.requires.forest c.requires.sides
    c.join_of-first.ensures c.join_of-second.ensures in
    tied_through c.args.dual.now x c.args.single c.args.sides c.join_of-first.result c.join_of-second.result j c.through.new.self c.note.new.self
    c.requires.forest c.requires.sides a c.through.ensures.longer
    (subst (λ z. AreNodes z c.through.new.self) c.as_slice.ensures c.through.ensures.kept)
    (subst (λ z. IsThrough z x.arena c.through.new.self c.join_of-first.result c.join_of-second.result j) c.as_slice.ensures c.in_ok-join.ensures.through)
    (subst (λ z. IsNoted x.joins c.note.new.self (start_of z j) (end_of z j) j) c.nodes.ensures c.in_ok-note.ensures.noted)
