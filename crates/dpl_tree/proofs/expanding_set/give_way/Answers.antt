use Rattle.std.proofs.Common.{arith, ap, length}
use Rattle.dpl_tree.proofs.Nexts.{event_next}
use Rattle.dpl_tree.proofs.Parting.{parted_tops}
use Rattle.dpl_tree.proofs.WayGiven.{around_few, opening_first, gave_way, given_so, sized_on}
use Rattle.dpl_tree.proofs.expanding_set.give_way.Goals as goal

pub pair_round-requires-clause-small : goal.pair_round-requires-clause-small
pair_round-requires-clause-small g c =
    let k = c.requires.stage in
    let o = c.in_ok-path.ensures k.0 k.1 in
    omega (arith, ap length c.deref.ensures.value, o.ring.count, (around_few k.1.stage o).1, k.1.stage.rest.family.small)

pub pair_round-requires-clause-odd : goal.pair_round-requires-clause-odd
pair_round-requires-clause-odd g c =
    let k = c.requires.stage in
    let o = c.in_ok-path.ensures k.0 k.1 in
    omega (arith, ap length c.deref.ensures.value, o.ring.count, o.ring.odd)

pub enter-requires-clause-first : goal.enter-requires-clause-first
enter-requires-clause-first g c =
    let k = c.requires.stage in
    omega (arith, (opening_first k.1.stage (c.in_ok-path.ensures k.0 k.1) c.first_set-first.ensures c.deref-2.ensures.value).0)

pub enter-requires-clause-apart : goal.enter-requires-clause-apart
enter-requires-clause-apart g c =
    let k = c.requires.stage in
    (opening_first k.1.stage (c.in_ok-path.ensures k.0 k.1) c.first_set-first.ensures c.deref-2.ensures.value).1

pub enter-requires-clause-room : goal.enter-requires-clause-room
enter-requires-clause-room g c =
    let k = c.requires.stage in
    let o = c.in_ok-path.ensures k.0 k.1 in
    omega (arith, o.place, (around_few k.1.stage o).1, k.1.stage.rest.family.small)

pub walk-requires-clause-few : goal.walk-requires-clause-few
walk-requires-clause-few g c =
    let k = c.requires.stage in
    omega (arith, ap length c.deref-3.ensures.value, (around_few k.1.stage (c.in_ok-path.ensures k.0 k.1)).1, k.1.stage.rest.family.small)

pub walk-requires-clause-below : goal.walk-requires-clause-below
walk-requires-clause-below g c =
    let k = c.requires.stage in
    rw (c.deref-3.ensures.value, c.enter.ensures.labels, c.requires.sized.labels) (around_few k.1.stage (c.in_ok-path.ensures k.0 k.1)).0

pub returns-clause-next : goal.returns-clause-next
returns-clause-next g c = λ dist by.
    let q = c.requires in
    let entered = sized_on c.enter.new.tree q.sized c.enter.ensures.labels c.enter.ensures.ranks c.enter.ensures.links c.enter.ensures.trees in
    let sized = sized_on c.walk.new.tree entered c.walk.ensures.labels c.walk.ensures.ranks c.walk.ensures.links c.walk.ensures.trees in
    event_next (λ bound. omega arith) (gave_way c.args.mates.now c.pair_round.new.mates by.symmetric q.mates by.stage q.low
    (c.in_ok-path.ensures dist by) c.expand.ensures.value c.expand.ensures.family q.sized entered sized
    c.deref.ensures.value c.pair_round.ensures c.deref-2.ensures.value
    c.first_set-first.ensures c.enter.ensures.opens
    c.deref-3.ensures.value c.deref-4.ensures.value c.walk.ensures.walked)

pub returns-clause-given : goal.returns-clause-given
returns-clause-given g c =
    let k = c.requires.stage in
    given_so c.args.tree.now c.enter.new.tree c.walk.new.tree c.args.mates.now c.pair_round.new.mates k.1.stage (c.in_ok-path.ensures k.0 k.1) c.expand.ensures.value c.expand.ensures.family c.deref-2.ensures.value
    c.first_set-first.ensures (c.enter.ensures.opens c.args.mates.now c.pair_round.new.mates)
    c.deref-3.ensures.value c.deref-4.ensures.value c.walk.ensures.walked

pub returns-clause-finer : goal.returns-clause-finer
returns-clause-finer g c =
    let q = c.requires in
    parted_tops q.stage.1.stage q.above q.is_inner c.expand.ensures.value

pub returns-clause-sized : goal.returns-clause-sized
returns-clause-sized g c =
    let q = c.requires in
    let entered = sized_on c.enter.new.tree q.sized c.enter.ensures.labels c.enter.ensures.ranks c.enter.ensures.links c.enter.ensures.trees in
    sized_on c.walk.new.tree entered c.walk.ensures.labels c.walk.ensures.ranks c.walk.ensures.links c.walk.ensures.trees
