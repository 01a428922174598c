use Rattle.std.proofs.Common.{refl}
use Rattle.dpl_tree.specs.Views.{mate_in}
use Rattle.dpl_tree.proofs.Endings.{number_read, join_way, join_done}
use Rattle.dpl_tree.proofs.way.join_trees.Goals as goal

pub release-requires-clause-stage : goal.release-requires-clause-stage
release-requires-clause-stage c = let k = c.requires.tight in (k.0, k.1.by)

pub augment-requires-clause-begun : goal.augment-requires-clause-begun
augment-requires-clause-begun c =
    let q = c.requires in
    let k = q.tight in (
      k.0,
      mate_in c.args.mates.now,
      k.1.by.symmetric,
      join_way c.args.tree.now c.args.mates.now k.1.by.symmetric k.1.by.stage q.pair k.1.tight q.apart (c.release.ensures k.0 k.1.by) refl,
    )

pub returns-clause-ends : goal.returns-clause-ends
returns-clause-ends c = λ dist first second k.
    let q = c.requires in
    let st = k.by.stage in
    let released = c.release.ensures dist k.by in
    let way = join_way c.args.tree.now c.args.mates.now k.by.symmetric st q.pair k.tight q.apart released refl in
    let one = number_read {tree = c.args.tree.now} {s = c.args.s} st.rest.laminar q.sized q.pair.from c.index-one.ensures c.tops.ensures.value in
    let two = number_read {tree = c.args.tree.now} {s = c.args.t} st.rest.laminar q.sized q.pair.to c.index-two.ensures c.tops-2.ensures.value in
    join_done c.args.tree.now c.dissolve.new.self c.args.mates.now st q.pair one two
    c.dissolve.ensures.gone c.dissolve.ensures.others c.dissolve.ensures.rest released refl
    (c.augment.ensures dist (mate_in c.args.mates.now) k.by.symmetric way) refl first second
