use Rattle.std.proofs.Common.{rules, ◌≤◌, ◌+◌, ◌*◌, ◌/◌, length, SFits, w64}
use Rattle.std.proofs.lemmas.Int.{to_z-of_z}
use Rattle.dpl_cover.specs.declared.blocks.TheConstants.{BLOCK, WIDE}
use Rattle.dpl_cover.specs.Counts.{block_at}
use Rattle.dpl_cover.proofs.CountLemmas.{block_alike, wide_alike, wide_small}
use Rattle.dpl_cover.proofs.counts.known_from.Goals as goal

pub returns-in-Some : goal.returns-in-Some
returns-in-Some c =
    let up : c.args.at + c.min.result ≤ c.args.at / WIDE * WIDE + WIDE = search rules in
    let within : c.args.at + c.min.result ≤ length c.args.each.now = search rules in
    wide_alike c.args.each.now c.args.blocks.now c.args.at _ c.in-Some.counted c.requires.counts (search rules) within up
    (rw c.wide_of.ensures at (rw c.in-Some.is at c.sign_of.ensures))

pub returns : goal.returns
returns c =
    let whole : SFits w64 (block_at c.args.blocks.now c.wide_of.result).whole = search rules in
    let up : c.args.at + c.min-2.result ≤ c.args.at / BLOCK * BLOCK + BLOCK = search rules in
    let within : c.args.at + c.min-2.result ≤ length c.args.each.now = search rules in
    block_alike c.args.each.now c.args.blocks.now c.args.at _ c.in_ok-counted.counted c.requires.counts (search rules) within up
    (rw (c.block_of.ensures, c.wide_of.ensures) at (simp to_z-of_z at c.in_ok-counted.ensures))

pub sign_of-requires-2 : goal.sign_of-requires-2
sign_of-requires-2 c =
    let whole : SFits w64 (block_at c.args.blocks.now c.wide_of.result).whole = search rules in
    simp to_z-of_z (rw c.wide_of.ensures (wide_small c.args.each.now c.args.blocks.now c.args.at c.requires.within c.requires.small))
