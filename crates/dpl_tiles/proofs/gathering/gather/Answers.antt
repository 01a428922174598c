use Rattle.std.proofs.Common.{rules, pos, reverse, sym, SFits, w64}
use Rattle.std.proofs.lemmas.Int.{to_z-of_z}
use Rattle.std.proofs.lemmas.List.{get_or_default}
use Rattle.dpl_tiles.specs.declared.corners.Corner.{Corner}
use Rattle.dpl_stacks.specs.Stacks.{before_of, behind_of, joined}
use Rattle.dpl_stacks.proofs.PlaceLemmas.{any_behind, behind_ordered, behind_one, parted_wider, rest_ordered, still_near}
use Rattle.dpl_stacks.proofs.OrderLemmas.{part_ordered}
use Rattle.dpl_tiles.proofs.CornerLemmas.{more_gathered, one_gathered, whole_cluster}
use Rattle.dpl_tiles.proofs.gathering.gather.Goals as goal

pub wider-init : goal.wider-init
wider-init c =
    let f : SFits w64 c.columns_of-change.result.left = search rules in
    let g : SFits w64 c.columns_of-change.result.right = search rules in
    let blank : Corner = record { y = pos 0; left = pos 0; right = pos 0 } in
    record {
      parted = simp to_z-of_z at c.in_ok-near.ensures;
      gathered = one_gathered c.args.corners.now c.args.at _ _ c.requires.inside
          (λ d. rw (get_or_default c.args.corners.now c.args.at d blank c.requires.inside) (sym c.columns_of-change.ensures.left))
          (λ d. rw (get_or_default c.args.corners.now c.args.at d blank c.requires.inside) c.columns_of-change.ensures.right);
    }

pub goes_on-requires : goal.goes_on-requires
goes_on-requires c = rw c.as_slice.ensures.value
    ((part_ordered (reverse c.wider.stacks.right.items) (joined (reverse c.wider.stacks.far_right.items))
    (behind_ordered _ _ _ _ _ (behind_of c.wider.stacks) c.wider.invariant.parted c.requires.ordered)).0)

pub take_near-requires : goal.take_near-requires
take_near-requires c = rest_ordered _ _ _ _ c.wider.near.items (behind_of c.wider.stacks) c.wider.invariant.parted c.requires.ordered

pub wider-preserved : goal.wider-preserved
wider-preserved c =
    let f : SFits w64 c.widened-change.result.right = search rules in
    let blank : Corner = record { y = pos 0; left = pos 0; right = pos 0 } in
    record {
      parted = rw (c.widened-change.ensures.left, c.in_ok-take_near.ensures.before)
          (parted_wider _ (before_of c.wider.stacks) c.wider.near.items (behind_of c.wider.stacks) _ _ c.wider.change.left c.wider.change.right _
          c.wider.invariant.parted c.widened-change.ensures.right c.in_ok-take_near.ensures.whole
          (simp to_z-of_z at (c.in_ok-take_near.ensures.near
          (simp to_z-of_z (still_near c.wider.near.items c.wider.change.right _ c.widened-change.ensures.right c.wider.invariant.parted.not_right))))
          (simp to_z-of_z at c.in_ok-take_near.ensures.behind));
      gathered = more_gathered c.args.corners.now c.args.at c.wider.to c.wider.change.left _ c.wider.change.right _
          c.wider.invariant.gathered (c.goes_on.ensures.some c.wider-test.true) c.widened-change.ensures.left
          c.widened-change.ensures.right
          (λ d. rw (get_or_default c.args.corners.now c.wider.to d blank (c.goes_on.ensures.some c.wider-test.true)) c.widened-change.ensures.own);
    }

pub returns-clause-cluster : goal.returns-clause-cluster
returns-clause-cluster c = whole_cluster c.args.corners.now c.args.at c.wider.to c.wider.change.left
    c.wider.change.right c.wider.near.items c.wider.invariant.gathered
    (λ d l. behind_one _ _ _ _ _ (behind_of c.wider.stacks) c.wider.invariant.parted c.requires.ordered _
    (any_behind _ c.wider.stacks.right.items (joined (reverse c.wider.stacks.far_right.items))
    (rw c.as_slice.ensures.value at (c.goes_on.ensures.none c.wider-test.false d l))))
