use Rattle.std.proofs.Common.{◌∙◌, ◌++◌, AllPairs, ap, reverse, SFits, w64}
use Rattle.std.proofs.lemmas.Int.{to_z-of_z}
use Rattle.dpl_stacks.specs.Stacks.{IsLeftOf, behind_of, joined}
use Rattle.dpl_stacks.proofs.BlockLemmas.{all_behind}
use Rattle.dpl_stacks.proofs.PlaceLemmas.{tail_same}
use Rattle.dpl_stacks.proofs.OrderLemmas.{part_ordered}
use Rattle.dpl_stacks.proofs.parting.take_near.Goals as goal

pub take_from-requires : goal.take_from-requires
take_from-requires c =
    let up : AllPairs IsLeftOf (c.opened.near.items ++ behind_of c.opened.stacks) = rw c.opened.invariant.whole c.requires in
    (part_ordered (reverse c.opened.stacks.right.items) (joined (reverse c.opened.stacks.far_right.items))
    ((part_ordered c.opened.near.items (behind_of c.opened.stacks) up).1)).0

pub returns-then-not-needs_block-clause-whole : goal.returns-then-not-needs_block-clause-whole
returns-then-not-needs_block-clause-whole c =
    tail_same c.opened.near.items (reverse c.opened.stacks.right.items) c.take_from.new.near.items
    (reverse c.take_from.new.right.items) (joined (reverse c.opened.stacks.far_right.items)) c.in_ok-take_from.ensures.whole ∙
    c.opened.invariant.whole

pub returns-then-not-needs_block-clause-behind : goal.returns-then-not-needs_block-clause-behind
returns-then-not-needs_block-clause-behind c =
    let f : SFits w64 c.args.column = c.ranges.column in
    let far = joined (reverse c.opened.stacks.far_right.items) in
    let e = tail_same c.opened.near.items (reverse c.opened.stacks.right.items) c.take_from.new.near.items
    (reverse c.take_from.new.right.items) far c.in_ok-take_from.ensures.whole ∙ c.opened.invariant.whole in
    let up : AllPairs IsLeftOf (c.take_from.new.near.items ++ (reverse c.take_from.new.right.items ++ far)) = rw e c.requires in
    all_behind c.take_from.new.right.items c.opened.stacks.far_right.items c.args.column
    ((part_ordered c.take_from.new.near.items (reverse c.take_from.new.right.items ++ far) up).1)
    (simp to_z-of_z at c.in_ok-take_from.ensures.right) (c.needs_block.ensures.none c.if-not-needs_block.true)

pub opened-preserved : goal.opened-preserved
opened-preserved c = record {
  before = c.open_next.ensures.before ∙ c.opened.invariant.before;
  whole = ap (λ xs. c.take_from.new.near.items ++ xs) c.open_next.ensures.behind ∙
      tail_same c.opened.near.items (reverse c.opened.stacks.right.items) c.take_from.new.near.items
      (reverse c.take_from.new.right.items) (joined (reverse c.opened.stacks.far_right.items)) c.in_ok-take_from.ensures.whole ∙
      c.opened.invariant.whole;
  near = λ a. c.in_ok-take_from.ensures.near (c.opened.invariant.near a);
}
