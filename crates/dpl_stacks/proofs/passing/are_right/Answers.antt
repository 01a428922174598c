use Rattle.std.proofs.Common.{sym, SFits, w64}
use Rattle.std.proofs.lemmas.Int.{to_z-of_z}
use Rattle.dpl_stacks.proofs.BlockLemmas.{next_block_ordered, next_block_right}
use Rattle.dpl_stacks.proofs.passing.are_right.Goals as goal

pub begins_right-requires : goal.begins_right-requires
begins_right-requires c = rw c.as_slice.ensures.value
    (next_block_ordered c.args.blocks.now c.in-Some.block.now c.requires (c.in-Some.ensures.item.3.0) (sym (c.in-Some.ensures.item.1)))

pub returns-in-Some : goal.returns-in-Some
returns-in-Some c = λ t.
    let f : SFits w64 c.args.column = c.ranges.column in
    next_block_right c.args.blocks.now c.in-Some.block.now c.args.column c.requires (c.in-Some.ensures.item.3.0)
    (sym (c.in-Some.ensures.item.1)) (rw c.as_slice.ensures.value at (simp to_z-of_z at (c.begins_right.ensures.all t)))
    (rw c.as_slice.ensures.value at (c.begins_right.ensures.some t))
