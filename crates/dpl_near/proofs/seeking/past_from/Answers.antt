use Rattle.std.proofs.Common.{arith, rules, ◌+◌, get_or, pos, SFits, w64}
use Rattle.std.proofs.lemmas.Int.{to_z-of_z}
use Rattle.dpl_list.proofs.Integers.{is_less, not_less}
use Rattle.dpl_near.proofs.SeekLemmas.{low_up_to, high_from}
use Rattle.dpl_near.proofs.seeking.past_from.Goals as goal

pub past_between-requires-clause-high : goal.past_between-requires-clause-high
past_between-requires-clause-high c =
    let f : SFits w64 c.args.x = c.ranges.x in
    let n : SFits w64 (get_or c.args.numbers.now (c.farther.from + c.farther.step) (pos 0)) = search rules in
    let within = c.farther.invariant.within in
    let test = c.farther-test.true in
    simp to_z-of_z (high_from c.args.numbers.now c.args.x (c.farther.from + c.farther.step) c.requires.rising (omega arith)
    (is_less _ _ (simp to_z-of_z at c.if-x-numbers.true)))

pub farther-preserved : goal.farther-preserved
farther-preserved c =
    let f : SFits w64 c.args.x = c.ranges.x in
    let n : SFits w64 (get_or c.args.numbers.now (c.farther.from + c.farther.step) (pos 0)) = search rules in
    let within = c.farther.invariant.within in
    let step = c.farther.invariant.step in
    let test = c.farther-test.true in
    record {
      within = omega arith;
      step = omega arith;
      low = simp to_z-of_z (low_up_to c.args.numbers.now c.args.x (c.farther.from + c.farther.step) (c.farther.from + c.farther.step + 1)
          c.requires.rising (omega arith) (omega arith) (not_less _ _ (simp to_z-of_z at c.if-x-numbers.false)));
    }
