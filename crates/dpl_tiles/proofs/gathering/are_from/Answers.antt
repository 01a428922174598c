use Rattle.std.proofs.Common.{rules, arith, ◌-◌, sym, length, SFits, w64}
use Rattle.std.proofs.lemmas.Int.{to_z-of_z}
use Rattle.dpl_list.proofs.Integers.{not_at_most}
use Rattle.dpl_stacks.proofs.PlaceLemmas.{last_begins}
use Rattle.dpl_tiles.proofs.gathering.are_from.Goals as goal
use Rattle.dpl_list.proofs.Integers.{is_at_most}

pub returns-in-Some-clause-all : goal.returns-in-Some-clause-all
returns-in-Some-clause-all c = λ t.
    let f : SFits w64 c.args.column = c.ranges.column in
    let g : SFits w64 c.in-Some.r.now.x1 = search rules in
    last_begins c.args.right.now c.in-Some.r.now c.args.column c.requires (sym (c.in-Some.ensures.item.1)) (is_at_most _ _ (simp to_z-of_z at t))

pub returns-in-Some-clause-some : goal.returns-in-Some-clause-some
returns-in-Some-clause-some c = λ t.
    let f : SFits w64 c.args.column = c.ranges.column in
    let g : SFits w64 c.in-Some.r.now.x1 = search rules in
    let l = c.in-Some.ensures.item.3.0 in
    (length c.args.right.now - 1, c.in-Some.r.now, omega arith, sym (c.in-Some.ensures.item.1), not_at_most _ _ (simp to_z-of_z at t))
