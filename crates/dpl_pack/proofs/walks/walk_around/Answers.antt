use Rattle.std.proofs.Common.{sym, subst}
use Rattle.dpl_pack.specs.Marks.{AreMarksNoted}
use Rattle.dpl_map.specs.Views.{view_of}
use Rattle.dpl_pack.specs.Rounds.{enclosed}
use Rattle.dpl_pack.proofs.AroundLemmas.{odd_inside, around_of, noted_none, noted_cleared}
use Rattle.dpl_pack.proofs.MarkedLemmas.{map_at}
use Rattle.dpl_pack.proofs.walks.walk_around.Goals as goal

pub find_walk-requires-clause-odd : goal.find_walk-requires-clause-odd
find_walk-requires-clause-odd c =
    let a = c.args.around.now in
    odd_inside a.graph.now (view_of a.map.now) (enclosed a) a.inside.now c.requires.around.places c.requires.around.written c.requires.odd

pub returns-clause-walk : goal.returns-clause-walk
returns-clause-walk c =
    let a = c.args.around.now in
    around_of a.graph.now (view_of a.map.now) (map_at a c.requires.around) (enclosed a) a.inside.now _
    c.requires.around.places c.requires.around.written c.in_ok-walk.ensures.walk

pub returns-clause-seen : goal.returns-clause-seen
returns-clause-seen c =
    let none = subst (λ z. AreMarksNoted z c.args.seen.now) (sym c.new-noted.ensures.items) (noted_none c.args.seen.now c.requires.seen) in
    noted_cleared _ _ _ (subst (λ z. AreMarksNoted z c.find_walk.new.seen) (sym c.deref.ensures.value)
    (c.in_ok-walk.ensures.noted none)) c.clear.ensures

pub clear-requires : goal.clear-requires
clear-requires c =
    let none = subst (λ z. AreMarksNoted z c.args.seen.now) (sym c.new-noted.ensures.items) (noted_none c.args.seen.now c.requires.seen) in
    rw c.deref.ensures.value (c.in_ok-walk.ensures.noted none).below
