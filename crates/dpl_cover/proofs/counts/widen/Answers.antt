use Rattle.std.proofs.Common.{SFits, w64}
use Rattle.std.proofs.lemmas.Int.{to_z-of_z}
use Rattle.dpl_cover.specs.Counts.{block_at}
use Rattle.dpl_cover.proofs.CountLemmas.{same_numbers, wider_still, within_wider}
use Rattle.dpl_cover.proofs.counts.widen.Goals as goal

pub returns-clause-wider : goal.returns-clause-wider
returns-clause-wider c = wider_still (block_at c.args.blocks.now c.args.b) c.joined-now.result _ c.joined-now.ensures.first
    (same_numbers _ _ c.set_bounds.ensures.low c.set_bounds.ensures.high)

pub returns-clause-between : goal.returns-clause-between
returns-clause-between c =
    let by : SFits w64 c.args.by = c.ranges.by in
    within_wider _ (block_at c.args.blocks.now c.args.b) c.raised.result _ (simp to_z-of_z at c.raised.ensures.between)
    (wider_still c.raised.result c.joined-now.result _ c.joined-now.ensures.second
    (same_numbers _ _ c.set_bounds.ensures.low c.set_bounds.ensures.high))
