use Rattle.std.proofs.Common.{arith}
use Rattle.dpl_laminar.specs.Storing.{sets_of}
use Rattle.dpl_tree.proofs.PartedLemmas.{classes_small}
use Rattle.dpl_tree.proofs.inside.part_all.Goals as goal

pub part_one-requires-clause-some : goal.part_one-requires-clause-some
part_one-requires-clause-some c = let k = c.requires.begun in (k.0, c.loop-count._count, c.loop-count.invariant k.0 k.1)

pub returns-clause-small : goal.returns-clause-small
returns-clause-small c =
    let k = c.requires.begun in
    let p = c.loop-count.invariant k.0 k.1 in
    classes_small (sets_of c.args.family.now).size (sets_of c.args.family.now) k.0
    c.loop-count.mates c.loop-count.classes c.loop-count._count
    (omega (arith, c.loop-count-test.false, c.requires.count)) p.stands
