use Rattle.std.proofs.Common.{rules, int_le, SFits, w64}
use Rattle.std.proofs.lemmas.List.Sorted.{IsPartitionPoint-from_clause}
use Rattle.dpl_near.proofs.SeekLemmas.{part_parted, past_in_part}
use Rattle.dpl_near.proofs.seeking.past_between.Goals as goal

pub returns : goal.returns
returns c =
    let f : SFits w64 c.args.x = c.ranges.x in
    past_in_part c.args.numbers.now c.args.x c.args.from c.args.to c.partition_point.result c.requires.order c.requires.within
    c.requires.low c.requires.high c.partition_point.ensures.bound
    (IsPartitionPoint-from_clause (λ z. int_le z c.args.x) _ _ c.partition_point.ensures.partitioned
    (part_parted c.args.numbers.now c.args.x c.args.from c.args.to c.requires.rising c.requires.order c.requires.within)
    (λ a r q k. search rules))
