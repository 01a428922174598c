use Rattle.std.proofs.Common.{arith, rules, int_lt, SFits, w64}
use Rattle.std.proofs.lemmas.List.Sorted.{IsPartitionPoint-from_clause}
use Rattle.dpl_list.proofs.Integers.{is_less, not_less}
use Rattle.dpl_cover.proofs.ColumnLemmas.{parted_left}
use Rattle.dpl_cover.proofs.columns.place_from.Goals as goal

pub returns-clause-left : goal.returns-clause-left
returns-clause-left c =
    let f : SFits w64 c.args.x = c.ranges.x in
    let point = IsPartitionPoint-from_clause (λ z. int_lt z c.args.x) _ _ c.partition_point.ensures.partitioned
    (parted_left _ c.args.x c.requires) (λ a r q k. search rules) in
    λ k h. let w = c.partition_point.ensures.bound in is_less _ _ (point.0 k _ (omega arith) h)

pub returns-clause-others : goal.returns-clause-others
returns-clause-others c =
    let f : SFits w64 c.args.x = c.ranges.x in
    let point = IsPartitionPoint-from_clause (λ z. int_lt z c.args.x) _ _ c.partition_point.ensures.partitioned
    (parted_left _ c.args.x c.requires) (λ a r q k. search rules) in
    λ k h l. not_less _ _ (point.1 k _ h l)
