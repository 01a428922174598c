use Rattle.std.proofs.Common.{◌∙◌, reverse, SFits, w64}
use Rattle.std.proofs.lemmas.Int.{to_z-of_z}
use Rattle.dpl_stacks.specs.Stacks.{joined}
use Rattle.dpl_stacks.proofs.BlockLemmas.{later_right, more_left, next_ordered, passed_block}
use Rattle.dpl_stacks.proofs.OrderLemmas.{part_ordered}
use Rattle.dpl_stacks.proofs.passing.pass_left.Goals as goal

pub is_left-requires : goal.is_left-requires
is_left-requires c = rw c.as_slice.ensures.value
    ((part_ordered c.in-Some.block.items (joined (reverse c.pop.new.self.items))
    (next_ordered c.passing.left.items c.passing.right.items _ _ (rw c.passing.invariant.whole c.requires.ordered) c.in-Some.ensures.items)).0)

pub returns-then-not-is_left-clause-right : goal.returns-then-not-is_left-clause-right
returns-then-not-is_left-clause-right c =
    let f : SFits w64 c.args.column = c.ranges.column in
    later_right c.in-Some.block.items (joined (reverse c.pop.new.self.items)) c.args.column
    (next_ordered c.passing.left.items c.passing.right.items _ _ (rw c.passing.invariant.whole c.requires.ordered) c.in-Some.ensures.items)
    (rw c.as_slice.ensures.value at (simp to_z-of_z at (c.is_left.ensures.some c.if-not-is_left.true)))

pub passing-preserved : goal.passing-preserved
passing-preserved c =
    let f : SFits w64 c.args.column = c.ranges.column in
    record {
      whole = passed_block c.passing.left.items c.passing.right.items _ _ c.in-Some.block c.in_ok-push-in-Some.ensures.items c.in-Some.ensures.items ∙
          c.passing.invariant.whole;
      left = more_left c.passing.left.items _ c.in-Some.block _ c.in_ok-push-in-Some.ensures.items c.passing.invariant.left
          (rw c.as_slice.ensures.value at (c.is_left.ensures.all c.if-not-is_left.false));
    }
