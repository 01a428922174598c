use Rattle.std.proofs.Common.{arith, ap, length}
use Rattle.dpl_laminar.proofs.Numbers.{some_none}
use Rattle.dpl_tree.specs.Views.{mate_in}
use Rattle.dpl_tree.proofs.WayGiven.{giving_of, giving_place, opening_forward, opening_backward}
use Rattle.dpl_tree.proofs.expanding_set.path_through.Goals as goal

pub place_of-at-requires : goal.place_of-at-requires
place_of-at-requires c =
    let q = c.requires in
    let st = q.stage.1.stage in
    let first = c.child_with-first.ensures in
    let last = c.child_with-last.ensures in
    let k = giving_of st q.above q.is_inner q.empty c.in-Some.ensures c.link-entry.ensures first.parent first.held
    last.parent last.held last.live last.below c.in_ok-round-in-Some.ensures in
    rw c.deref.ensures.value (giving_place k)

pub returns-then-at-eq0 : goal.returns-then-at-eq0
returns-then-at-eq0 c = λ dist by.
    let q = c.requires in
    let st = by.stage in
    let first = c.child_with-first.ensures in
    let last = c.child_with-last.ensures in
    let k = giving_of st q.above q.is_inner q.empty c.in-Some.ensures c.link-entry.ensures first.parent first.held
    last.parent last.held last.live last.below c.in_ok-round-in-Some.ensures in
    opening_forward k c.deref.ensures.value c.place_of-at.ensures.below c.place_of-at.ensures.value c.if-at-eq0.true

pub unreachable-requires : goal.unreachable-requires
unreachable-requires c =
    let w = c.requires.stage.1.stage.tree.inner_pair c.args.set c.requires.is_inner in
    some_none (mate_in c.args.mates.now w.0) w.1 w.2.paired
    (c.in-None.ensures w.0 (omega (arith, w.2.below, c.requires.stage.1.stage.rest.size)) w.2.top)

pub returns : goal.returns
returns c = λ dist by.
    let q = c.requires in
    let st = by.stage in
    let first = c.child_with-first.ensures in
    let last = c.child_with-last.ensures in
    let k = giving_of st q.above q.is_inner q.empty c.in-Some.ensures c.link-entry.ensures first.parent first.held
    last.parent last.held last.live last.below c.in_ok-round-in-Some.ensures in
    opening_backward by.symmetric k c.deref.ensures.value c.place_of-at.ensures.below c.place_of-at.ensures.value c.if-at-eq0.false
    c.deref-in-Some.ensures.value c.deref-in-Some-2.ensures.value c.in_ok-other-in-Some.ensures
    (omega (arith, ap length c.deref.ensures.value))
