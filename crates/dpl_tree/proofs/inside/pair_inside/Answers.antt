use Rattle.std.proofs.Common.{arith, ℕ, List, ap, ◌∙◌, get_or}
use Rattle.dpl_laminar.specs.Storing.{sets_of}
use Rattle.dpl_tree.proofs.PartedLemmas.{parts_begun, classes_whole}
use Rattle.dpl_tree.proofs.inside.pair_inside.Goals as goal

pub tops_list-requires-clause-small : goal.tops_list-requires-clause-small
tops_list-requires-clause-small c = omega (arith, c.requires.rest.1.rest.family.small, c.requires.mates)

pub part_all-requires-clause-small : goal.part_all-requires-clause-small
part_all-requires-clause-small c = c.requires.rest.1.rest.family.small

pub part_all-requires-clause-begun : goal.part_all-requires-clause-begun
part_all-requires-clause-begun c =
    let k = c.requires.rest in (
      k.0,
      parts_begun c.args.mates.now c.deref_mut.result.now k.1 c.requires.covered
          (λ m h. ap (λ (z : List ℕ). get_or z m 0) c.deref_mut.ensures.value ∙ c.in-Ok.ensures.each m (omega (arith, h, c.requires.mates))),
    )

pub returns-in-Ok-all_mates-clause-done : goal.returns-in-Ok-all_mates-clause-done
returns-in-Ok-all_mates-clause-done c = λ dist by.
    let begun = parts_begun c.args.mates.now c.deref_mut.result.now by c.requires.covered
    (λ m h. ap (λ (z : List ℕ). get_or z m 0) c.deref_mut.ensures.value ∙ c.in-Ok.ensures.each m (omega (arith, h, c.requires.mates))) in
    let w = c.in-Ok-part_all.ensures.classes dist begun in
    classes_whole (sets_of c.args.family.now).size (sets_of c.args.family.now) dist c.part_all.new.mates
    c.part_all.new.classes w.0 c.in-Ok-all_mates.list.items w.1.stands c.in-Ok-part_all.ensures.small
    (λ m t h k. c.in-Ok-all_mates.ensures.each m t (omega (arith, h, c.part_all.auto.mates, c.requires.mates)) k)
