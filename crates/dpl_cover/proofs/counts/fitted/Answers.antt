use Rattle.std.proofs.Common.{rules, SFits, w64}
use Rattle.std.proofs.lemmas.Int.{to_z-of_z}
use Rattle.dpl_cover.specs.Counts.{block_at}
use Rattle.dpl_cover.proofs.CountLemmas.{loosely_fit}
use Rattle.dpl_cover.proofs.counts.fitted.Goals as goal

pub returns-then-to-from-eq-BLOCK : goal.returns-then-to-from-eq-BLOCK
returns-then-to-from-eq-BLOCK c = c.bounds_of_wide.ensures c.args.from c.args.to

pub returns-then-has_turned : goal.returns-then-has_turned
returns-then-has_turned c = c.bounds_of_wide-then-has_turned.ensures c.args.from c.args.to

pub returns : goal.returns
returns c =
    let whole : SFits w64 (block_at c.args.blocks.now c.args.w).whole = search rules in
    loosely_fit c.args.w c.args.from c.args.to c.args.blocks.now c.joined_all.result c.raised-changed.result c.joined-now.result
    c.joined-now.ensures.first c.joined-now.ensures.second (simp to_z-of_z at c.raised-changed.ensures.between) c.joined_all.ensures
