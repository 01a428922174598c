use Rattle.std.proofs.Common.{rules, arith, ◌≤◌, ◌+◌, ◌^◌, SFits, w64}
use Rattle.std.proofs.lemmas.Int.{to_z-of_z}
use Rattle.dpl_cover.proofs.CountLemmas.{joined_parts, near_added, near_up, wider_all}
use Rattle.dpl_cover.proofs.counts.change_parts.Goals as goal

pub change_within-requires-clause-part : goal.change_within-requires-clause-part
change_within-requires-clause-part c =
    let by : SFits w64 c.args.by = c.ranges.by in
    let changed = simp to_z-of_z at c.loop-at.invariant.changed in
    wider_all (2 ^ 59 + 1) (2 ^ 60) _ _ (omega arith) (rw changed.long
    (near_up _ (2 ^ 59) _ _ _ _ (near_added _ _ _ c.args.by _ _ c.requires.one changed.part) c.requires.part))

pub loop-at-preserved : goal.loop-at-preserved
loop-at-preserved c =
    let by : SFits w64 c.args.by = c.ranges.by in
    let within : c.loop-at.at + c.min.result ≤ c.args.to = search rules in
    let order = c.loop-at.invariant.order in
    record {
      changed = simp to_z-of_z (joined_parts c.args.from c.loop-at.at (c.loop-at.at + c.min.result) c.args.by c.args.each.now c.args.blocks.now
          c.loop-at.each c.loop-at.blocks _ _ order (omega arith) (omega (arith, within, c.requires.within))
          (simp to_z-of_z at c.loop-at.invariant.changed) (simp to_z-of_z at c.change_within.ensures));
      order = omega (arith, order);
      within = within;
    }
