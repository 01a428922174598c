use Rattle.std.proofs.Common.{rules, refl, pos, get_or, ◌+ℤ◌, SFits, w64, length, ◌<◌}
use Rattle.std.proofs.lemmas.Int.{to_z-of_z}
use Rattle.dpl_cover.proofs.CountLemmas.{added_more}
use Rattle.dpl_cover.proofs.counts.add_each.Goals as goal

pub loop-k-preserved : goal.loop-k-preserved
loop-k-preserved c =
    let by : SFits w64 c.args.by = c.ranges.by in
    let own : SFits w64 (get_or c.loop-k.each c.loop-k.k (pos 0)) = search rules in
    let sum : SFits w64 (get_or c.loop-k.each c.loop-k.k (pos 0) +ℤ c.args.by) = search rules in
    let within : c.loop-k.k < length c.args.each.now = search rules in
    record {
      long = search rules;
      own = simp to_z-of_z (added_more c.args.from c.loop-k.k c.args.by c.args.each.now c.loop-k.each _
          c.loop-k.auto.k within c.loop-k.invariant.long refl (simp to_z-of_z at c.loop-k.invariant.own));
    }
