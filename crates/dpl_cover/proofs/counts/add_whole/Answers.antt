use Rattle.std.proofs.Common.{rules, ap, ◌≡◌, ◌+ℤ◌, SFits, w64}
use Rattle.std.proofs.lemmas.Int.{to_z-of_z}
use Rattle.dpl_cover.specs.Counts.{block_at}
use Rattle.dpl_cover.proofs.CountLemmas.{whole_grown, whole_fits}
use Rattle.dpl_cover.proofs.counts.add_whole.Goals as goal

pub returns : goal.returns
returns c =
    let by : SFits w64 c.args.by = c.ranges.by in
    let whole : SFits w64 c.raised-now.result.whole = search rules in
    let low : SFits w64 c.raised-now.result.low = search rules in
    let high : SFits w64 c.raised-now.result.high = search rules in
    let same : c.raised-now.result.whole ≡ (block_at c.args.blocks.now c.args.b).whole = search rules in
    let sum : SFits w64 (c.raised-now.result.whole +ℤ c.args.by) =
    rw same (whole_fits (block_at c.args.blocks.now c.args.b).whole c.args.by c.requires.one c.requires.small) in
    let between = simp to_z-of_z at c.raised-now.ensures.between in
    simp to_z-of_z (whole_grown c.args.b c.args.by c.args.blocks.now _ c.requires.within (ap (λ z. z +ℤ c.args.by) same)
    (λ z t s. let r = between z t s in record { low = r.low; high = r.high }))
