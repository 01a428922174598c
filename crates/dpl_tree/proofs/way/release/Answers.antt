use Rattle.std.proofs.Common.{sym, ◌∙◌}
use Rattle.dpl_laminar.proofs.Numbers.{some_none}
use Rattle.dpl_laminar.specs.Storing.{sets_of}
use Rattle.dpl_tree.specs.Views.{mate_in, forest_of}
use Rattle.dpl_tree.proofs.Ways.{parted, parted_way, parted_ended, release_none}
use Rattle.dpl_tree.proofs.way.release.Goals as goal

pub augment-requires-clause-begun : goal.augment-requires-clause-begun
augment-requires-clause-begun c =
    let q = c.requires in
    let k = q.stage in
    let p = parted {tree = c.args.tree.now} {t = c.args.t} k.1.stage q.mates c.in-Some.ensures c.tops.ensures.value c.tops-in-Some.ensures.value c.link-above.ensures c.part.ensures in
    (k.0, mate_in c.args.mates.now, k.1.symmetric, parted_way k.1.symmetric k.1.stage q.is_outer p)

pub returns-in-Some : goal.returns-in-Some
returns-in-Some c = λ dist by.
    let q = c.requires in
    let p = parted {tree = c.args.tree.now} {t = c.args.t} by.stage q.mates c.in-Some.ensures c.tops.ensures.value c.tops-in-Some.ensures.value c.link-above.ensures c.part.ensures in
    let way = parted_way by.symmetric by.stage q.is_outer p in
    parted_ended by.stage q.is_outer p (c.augment.ensures dist (mate_in c.args.mates.now) by.symmetric way)

pub returns-in-None : goal.returns-in-None
returns-in-None c = λ dist by. release_none (sets_of c.args.family.now).size (sets_of c.args.family.now) dist
    (forest_of c.args.tree.now c.args.mates.now) c.args.t by.stage c.requires.is_outer
    (λ m u w. some_none (mate_in c.args.mates.now m) u w.paired (c.in-None.ensures m w.below (w.top ∙ sym c.tops.ensures.value)))
