use Rattle.std.proofs.Common.{arith, rules, int_le, inl, inr, ◌≡◌, ◌-◌, SFits, w64}
use Rattle.std.proofs.lemmas.List.Sorted.{IsPartitionPoint-from_clause}
use Rattle.dpl_cover.proofs.ColumnLemmas.{parted_up_to, last_of_those}
use Rattle.dpl_list.proofs.Integers.{is_at_most}
use Rattle.dpl_cover.proofs.columns.last_place.Goals as goal

pub returns : goal.returns
returns c =
    let f : SFits w64 c.args.x = c.ranges.x in
    let point = IsPartitionPoint-from_clause (λ z. int_le z c.args.x) _ _ c.partition_point.ensures.partitioned
    (parted_up_to _ c.args.x c.requires) (λ a r q k. search rules) in
    let bound = c.partition_point.ensures.bound in
    let place : c.saturating_sub.result ≡ c.partition_point.result - 1 = search rules in
    elim (last_of_those c.partition_point.result c.saturating_sub.result place) [
      | inl n ↦ inl n
      | inr l ↦ inr (omega (arith, l, bound), is_at_most _ _ (point.0 c.saturating_sub.result _ (omega (arith, l, bound)) l))
    ]
