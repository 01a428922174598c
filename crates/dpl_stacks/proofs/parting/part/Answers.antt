use Rattle.std.proofs.Common.{rules, ◌∙◌, ◌++◌, AllPairs, ap, sym, SFits, w64}
use Rattle.std.proofs.lemmas.Int.{to_z-of_z}
use Rattle.dpl_stacks.specs.Stacks.{IsLeftOf, before_of, behind_of, stacks_of}
use Rattle.dpl_stacks.proofs.PlaceLemmas.{parted}
use Rattle.dpl_stacks.proofs.OrderLemmas.{part_ordered}
use Rattle.dpl_stacks.proofs.parting.part.Goals as goal

pub take_near-requires : goal.take_near-requires
take_near-requires c =
    let up : AllPairs IsLeftOf (stacks_of c.seek.new.stacks) = rw c.in_ok-seek.ensures.whole c.requires.ordered in
    rw c.new-near.ensures.items ((part_ordered (before_of c.seek.new.stacks) (behind_of c.seek.new.stacks) up).1)

pub returns : goal.returns
returns c =
    let f : SFits w64 c.args.left = c.ranges.left in
    let g : SFits w64 c.args.right = c.ranges.right in
    rw c.in_ok-take_near.ensures.before
    (parted (stacks_of c.args.stacks.now) (before_of c.seek.new.stacks) (behind_of c.seek.new.stacks) c.take_near.new.near.items _ c.args.left
    c.args.right c.requires.some (sym c.in_ok-seek.ensures.whole) (simp to_z-of_z at c.in_ok-seek.ensures.left)
    (simp to_z-of_z at c.in_ok-seek.ensures.right)
    (c.in_ok-take_near.ensures.whole ∙ ap (λ xs. xs ++ behind_of c.seek.new.stacks) c.new-near.ensures.items)
    (simp to_z-of_z at (c.in_ok-take_near.ensures.near (rw c.new-near.ensures.items (λ k d l. absurd (search rules)))))
    (simp to_z-of_z at c.in_ok-take_near.ensures.behind))
