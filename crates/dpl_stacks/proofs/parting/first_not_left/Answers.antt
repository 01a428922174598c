use Rattle.std.proofs.Common.{rules, int_lt, SFits, w64}
use Rattle.std.proofs.lemmas.List.Sorted.{IsPartitionPoint-from_clause}
use Rattle.dpl_list.proofs.Integers.{is_less, not_less}
use Rattle.dpl_stacks.proofs.OrderLemmas.{parted_left}
use Rattle.dpl_stacks.proofs.parting.first_not_left.Goals as goal

pub returns-clause-place : goal.returns-clause-place
returns-clause-place c =
    let f : SFits w64 c.args.column = c.ranges.column in
    let point = IsPartitionPoint-from_clause (λ r. int_lt r.x2 c.args.column) _ _ c.partition_point.ensures.partitioned
    (parted_left _ c.args.column c.requires) (λ a r q k. search rules) in
    (λ k d l h. is_less _ _ (point.0 k d l h), λ k d h l. not_less _ _ (point.1 k d h l))
