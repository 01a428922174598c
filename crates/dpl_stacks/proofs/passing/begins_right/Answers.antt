use Rattle.std.proofs.Common.{rules, sym, SFits, w64}
use Rattle.std.proofs.lemmas.Int.{to_z-of_z}
use Rattle.dpl_list.proofs.Integers.{is_at_most}
use Rattle.dpl_stacks.proofs.BlockLemmas.{all_end_right}
use Rattle.dpl_stacks.proofs.passing.begins_right.Goals as goal

pub returns-in-Some-clause-all : goal.returns-in-Some-clause-all
returns-in-Some-clause-all c = λ t.
    let f : SFits w64 c.args.column = c.ranges.column in
    let g : SFits w64 c.in-Some.r.now.x2 = search rules in
    all_end_right c.args.stacks.now c.in-Some.r.now c.args.column c.requires (sym (c.in-Some.ensures.item.1)) (is_at_most _ _ (simp to_z-of_z at t))
