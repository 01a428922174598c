use Rattle.std.proofs.Common.{rules, ◌<◌, sym, length, SFits, w64}
use Rattle.std.proofs.lemmas.Int.{to_z-of_z}
use Rattle.dpl_stacks.proofs.BlockLemmas.{last_block_ordered, last_block_left}
use Rattle.dpl_stacks.proofs.passing.are_left.Goals as goal

pub is_left-requires : goal.is_left-requires
is_left-requires c = rw c.as_slice.ensures.value
    (last_block_ordered c.args.blocks.now c.in-Some.block.now c.requires (c.in-Some.ensures.item.3.0) (sym (c.in-Some.ensures.item.1)))

pub returns-then-not-is_empty-clause-all : goal.returns-then-not-is_empty-clause-all
returns-then-not-is_empty-clause-all c = λ t.
    let f : SFits w64 c.args.column = c.ranges.column in
    let some : 0 < length c.in-Some.block.now.items = search rules in
    last_block_left c.args.blocks.now c.in-Some.block.now c.args.column c.requires (c.in-Some.ensures.item.3.0)
    (sym (c.in-Some.ensures.item.1)) (rw c.as_slice.ensures.value at (simp to_z-of_z at (c.is_left.ensures.all t))) some
