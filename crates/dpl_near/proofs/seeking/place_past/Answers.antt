use Rattle.std.proofs.Common.{arith, rules, ◌+◌, get_or, pos, SFits, w64}
use Rattle.std.proofs.lemmas.Int.{to_z-of_z}
use Rattle.dpl_list.proofs.Integers.{is_less, not_less}
use Rattle.dpl_near.proofs.SeekLemmas.{low_up_to, high_from}
use Rattle.dpl_near.proofs.seeking.place_past.Goals as goal

pub past_before-requires-then-x-numbers-clause-high : goal.past_before-requires-then-x-numbers-clause-high
past_before-requires-then-x-numbers-clause-high c =
    let f : SFits w64 c.args.x = c.ranges.x in
    let n : SFits w64 (get_or c.args.numbers.now c.args.near (pos 0)) = search rules in
    let test = c.if-near-numbers.false in
    simp to_z-of_z (high_from c.args.numbers.now c.args.x c.args.near c.requires (omega arith)
    (is_less _ _ (simp to_z-of_z at c.if-x-numbers.true)))

pub past_from-requires-clause-low : goal.past_from-requires-clause-low
past_from-requires-clause-low c =
    let f : SFits w64 c.args.x = c.ranges.x in
    let n : SFits w64 (get_or c.args.numbers.now c.args.near (pos 0)) = search rules in
    let test = c.if-near-numbers.false in
    simp to_z-of_z (low_up_to c.args.numbers.now c.args.x c.args.near (c.args.near + 1) c.requires (omega arith) (omega arith)
    (not_less _ _ (simp to_z-of_z at c.if-x-numbers.false)))
