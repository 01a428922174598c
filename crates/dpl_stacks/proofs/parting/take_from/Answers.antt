use Rattle.std.proofs.Common.{SFits, w64}
use Rattle.std.proofs.lemmas.Int.{to_z-of_z}
use Rattle.dpl_stacks.proofs.PlaceLemmas.{to_left, taken_near, taken_right}
use Rattle.dpl_stacks.proofs.parting.take_from.Goals as goal

pub returns-clause-whole : goal.returns-clause-whole
returns-clause-whole c = to_left c.args.near.now.items c.args.right.now.items _ _ _ c.in_ok-move_back.ensures.from c.in_ok-move_back.ensures.to

pub returns-clause-near : goal.returns-clause-near
returns-clause-near c =
    let f : SFits w64 c.args.column = c.ranges.column in
    taken_near c.args.near.now.items c.args.right.now.items _ c.args.column _ c.in_ok-move_back.ensures.to
    (rw c.as_slice.ensures.value at (simp to_z-of_z at c.first_not_right-count.ensures.place))

pub returns-clause-right : goal.returns-clause-right
returns-clause-right c =
    let f : SFits w64 c.args.column = c.ranges.column in
    taken_right c.args.right.now.items _ c.args.column _ c.in_ok-move_back.ensures.from
    (rw c.as_slice.ensures.value at (simp to_z-of_z at c.first_not_right-count.ensures.place))
