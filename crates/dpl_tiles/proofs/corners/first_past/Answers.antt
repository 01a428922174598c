use Rattle.std.proofs.Common.{rules, int_le, SFits, w64}
use Rattle.std.proofs.lemmas.List.Sorted.{IsPartitionPoint-from_clause}
use Rattle.dpl_list.proofs.Integers.{is_at_most, not_at_most}
use Rattle.dpl_tiles.proofs.CornerLemmas.{parted_up_to}
use Rattle.dpl_tiles.proofs.corners.first_past.Goals as goal

pub returns-clause-place : goal.returns-clause-place
returns-clause-place c =
    let f : SFits w64 c.args.y = c.ranges.y in
    let point = IsPartitionPoint-from_clause (λ r. int_le r.y c.args.y) _ _ c.partition_point.ensures.partitioned
    (parted_up_to _ c.args.y c.requires) (λ a r q k. search rules) in
    (λ k d l h. is_at_most _ _ (point.0 k d l h), λ k d h l. not_at_most _ _ (point.1 k d h l))
