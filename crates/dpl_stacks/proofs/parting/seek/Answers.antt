use Rattle.std.proofs.Common.{◌∙◌, ◌<ℤ◌, ◌≤ℤ◌, AllPairs, reverse, SFits, w64}
use Rattle.std.proofs.lemmas.Int.{to_z-of_z}
use Rattle.std.proofs.lemmas.List.Elements.{All-append}
use Rattle.dpl_stacks.specs.Stacks.{IsLeftOf, joined, stacks_of}
use Rattle.dpl_stacks.proofs.PlaceLemmas.{AreMoves, gap_same, left_ordered, moved_left, moved_right, moved_whole, right_ordered, to_right}
use Rattle.dpl_stacks.proofs.parting.seek.Goals as goal

pub first_not_left-from-requires : goal.first_not_left-from-requires
first_not_left-from-requires c =
    let s = c.approach.new.stacks in
    let up : AllPairs IsLeftOf (stacks_of c.approach.new.stacks) = rw c.in_ok-approach.ensures.whole c.requires in
    rw c.as_slice.ensures.value (left_ordered (joined s.far_left.items) s.left.items (reverse s.right.items) (joined (reverse s.far_right.items)) up)

pub first_left-count-requires : goal.first_left-count-requires
first_left-count-requires c =
    let s = c.approach.new.stacks in
    let up : AllPairs IsLeftOf (stacks_of c.approach.new.stacks) = rw c.in_ok-approach.ensures.whole c.requires in
    let e = gap_same (joined s.far_left.items) s.left.items (reverse s.right.items) c.move_back.new.from.items
    (reverse c.move_back.new.to.items) (joined (reverse s.far_right.items))
    (to_right s.left.items s.right.items _ _ _ c.in_ok-move_back.ensures.from c.in_ok-move_back.ensures.to) in
    rw c.as_slice-2.ensures.value (right_ordered (joined s.far_left.items) c.move_back.new.from.items
    (reverse c.move_back.new.to.items) (joined (reverse s.far_right.items)) (rw e up))

pub returns : goal.returns
returns c =
    let s = c.approach.new.stacks in
    let f : SFits w64 c.args.column = c.ranges.column in
    let m : AreMoves c.args.column s.left.items s.right.items c.move_back.new.from.items c.move_back.new.to.items
    c.move_back-2.new.to.items c.move_back-2.new.from.items c.first_not_left-from.result c.first_left-count.result = record {
      is_left1 = c.in_ok-move_back.ensures.from;
      is_right1 = c.in_ok-move_back.ensures.to;
      not_left = rw c.as_slice.ensures.value at (simp to_z-of_z at c.first_not_left-from.ensures.place);
      is_right2 = c.in_ok-move_back-2.ensures.from;
      is_left2 = c.in_ok-move_back-2.ensures.to;
      more_left = rw c.as_slice-2.ensures.value at (simp to_z-of_z at c.first_left-count.ensures.place);
    } in
    record {
      whole = gap_same (joined s.far_left.items) s.left.items (reverse s.right.items) _ _ (joined (reverse s.far_right.items))
          (moved_whole c.args.column s.left.items s.right.items _ _ _ _ _ _ m) ∙ c.in_ok-approach.ensures.whole;
      left = All-append (λ r. r.x2 <ℤ c.args.column) (joined s.far_left.items) _ (simp to_z-of_z at c.in_ok-approach.ensures.left)
          (moved_left c.args.column s.left.items s.right.items _ _ _ _ _ _ m);
      right = All-append (λ r. c.args.column ≤ℤ r.x2) _ (joined (reverse s.far_right.items))
          (moved_right c.args.column s.left.items s.right.items _ _ _ _ _ _ m) (simp to_z-of_z at c.in_ok-approach.ensures.right);
    }
