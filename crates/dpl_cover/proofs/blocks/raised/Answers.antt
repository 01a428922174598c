use Rattle.std.proofs.Common.{rules, SFits, w64}
use Rattle.dpl_cover.proofs.CountLemmas.{cut_within}
use Rattle.dpl_cover.proofs.blocks.raised.Goals as goal

pub returns-clause-between : goal.returns-clause-between
returns-clause-between c =
    let count : SFits w64 c.args.count = c.ranges.count in
    let low : SFits w64 c.args.block.now.low = search rules in
    let high : SFits w64 c.args.block.now.high = search rules in
    cut_within _ c.args.block.now _ (search rules) (search rules)
