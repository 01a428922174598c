use Rattle.std.proofs.Common.{rules, int_le, SFits, w64}
use Rattle.std.proofs.lemmas.List.Sorted.{IsPartitionPoint-from_clause}
use Rattle.dpl_list.proofs.Integers.{is_at_most, not_at_most}
use Rattle.dpl_stacks.proofs.OrderLemmas.{parted_left_back}
use Rattle.dpl_stacks.proofs.parting.first_left.Goals as goal

pub returns-clause-place : goal.returns-clause-place
returns-clause-place c =
    let f : SFits w64 c.args.column = c.ranges.column in
    let point = IsPartitionPoint-from_clause (λ r. int_le c.args.column r.x2) _ _ c.partition_point.ensures.partitioned
    (parted_left_back _ c.args.column c.requires) (λ a r q k. search rules) in
    (λ k d l h. is_at_most _ _ (point.0 k d l h), λ k d h l. not_at_most _ _ (point.1 k d h l))
