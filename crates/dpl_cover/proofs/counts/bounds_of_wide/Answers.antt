use Rattle.std.proofs.Common.{rules, ◌≡◌, ◌⊎◌, ◌+◌, length, SFits, w64}
use Rattle.std.proofs.lemmas.Int.{to_z-of_z}
use Rattle.dpl_cover.specs.declared.blocks.TheConstants.{BLOCK}
use Rattle.dpl_cover.specs.Counts.{block_at}
use Rattle.dpl_cover.proofs.CountLemmas.{all_fit}
use Rattle.dpl_cover.proofs.counts.bounds_of_wide.Goals as goal

pub returns : goal.returns
returns c = λ from to.
    let whole : SFits w64 (block_at c.args.blocks.now c.args.w).whole = search rules in
    let end : (c.min.result ≡ length c.args.blocks.now) ⊎ (c.min.result ≡ c.args.w + 1 + BLOCK) = search rules in
    all_fit c.args.w from to c.min.result c.args.blocks.now c.joined_all-all.result c.raised.result end
    c.joined_all-all.ensures (simp to_z-of_z at c.raised.ensures.between)
