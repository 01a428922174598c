use Rattle.std.proofs.Common.{rules, arith, ◌≤◌, ◌+◌, ◌^◌, SFits, w64}
use Rattle.std.proofs.lemmas.Int.{to_z-of_z}
use Rattle.dpl_cover.proofs.CountLemmas.{joined_changes, small_after, small_wider}
use Rattle.dpl_cover.proofs.counts.change.Goals as goal

pub change_in_wide-requires-clause-small : goal.change_in_wide-requires-clause-small
change_in_wide-requires-clause-small c =
    let by : SFits w64 c.args.by = c.ranges.by in
    small_wider (2 ^ 58 + 1) (2 ^ 59) _ _ (omega arith)
    (small_after (2 ^ 58) _ _ c.args.by _ _ _ _ c.requires.one (simp to_z-of_z at c.loop-at.invariant.changed) c.requires.small)

pub loop-at-preserved : goal.loop-at-preserved
loop-at-preserved c =
    let by : SFits w64 c.args.by = c.ranges.by in
    let within : c.loop-at.at + c.min.result ≤ c.args.to = search rules in
    let order = c.loop-at.invariant.order in
    record {
      changed = simp to_z-of_z (joined_changes c.args.from c.loop-at.at (c.loop-at.at + c.min.result) c.args.by c.args.each.now c.args.blocks.now
          c.loop-at.each c.loop-at.blocks _ _ order (omega arith) (omega (arith, within, c.requires.within))
          (simp to_z-of_z at c.loop-at.invariant.changed) (simp to_z-of_z at c.change_in_wide.ensures));
      order = omega (arith, order);
      within = within;
    }
