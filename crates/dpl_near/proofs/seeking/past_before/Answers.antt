use Rattle.std.proofs.Common.{arith, rules, ◌-◌, get_or, pos, SFits, w64}
use Rattle.std.proofs.lemmas.Int.{to_z-of_z}
use Rattle.dpl_list.proofs.Integers.{is_at_most, not_at_most}
use Rattle.dpl_near.proofs.SeekLemmas.{low_up_to, high_from}
use Rattle.dpl_near.proofs.seeking.past_before.Goals as goal

pub past_between-requires-clause-low : goal.past_between-requires-clause-low
past_between-requires-clause-low c =
    let f : SFits w64 c.args.x = c.ranges.x in
    let n : SFits w64 (get_or c.args.numbers.now (c.farther.to - c.farther.step - 1) (pos 0)) = search rules in
    let room = c.farther.invariant.room in
    let test = c.farther-test.true in
    simp to_z-of_z (low_up_to c.args.numbers.now c.args.x (c.farther.to - c.farther.step - 1) (c.farther.to - c.farther.step)
    c.requires.rising (omega arith) (omega arith) (is_at_most _ _ (simp to_z-of_z at c.if-numbers-from.true)))

pub farther-preserved : goal.farther-preserved
farther-preserved c =
    let f : SFits w64 c.args.x = c.ranges.x in
    let n : SFits w64 (get_or c.args.numbers.now (c.farther.to - c.farther.step - 1) (pos 0)) = search rules in
    let room = c.farther.invariant.room in
    let test = c.farther-test.true in
    record {
      room = omega arith;
      high = simp to_z-of_z (high_from c.args.numbers.now c.args.x (c.farther.to - c.farther.step - 1) c.requires.rising (omega arith)
          (not_at_most _ _ (simp to_z-of_z at c.if-numbers-from.false)));
    }
