use Rattle.std.proofs.Common.{rules, sym, ◌≤◌, ◌+◌, ◌*◌, ◌/◌, length, SFits, w64}
use Rattle.std.proofs.lemmas.Int.{to_z-of_z}
use Rattle.dpl_cover.specs.declared.blocks.TheConstants.{BLOCK}
use Rattle.dpl_cover.specs.Counts.{own_at}
use Rattle.dpl_cover.proofs.CountLemmas.{places_alike, wholes_small}
use Rattle.dpl_cover.proofs.counts.alike_from.Goals as goal

pub whole_of-whole-requires : goal.whole_of-whole-requires
whole_of-whole-requires c = rw (c.block_of.ensures, c.wide_of.ensures)
    (wholes_small c.args.each.now c.args.blocks.now c.args.at c.requires.within c.requires.small)

pub returns : goal.returns
returns c =
    let own : SFits w64 (own_at c.args.each.now c.args.at) = search rules in
    let whole : SFits w64 c.whole_of-whole.result = search rules in
    let end : c.args.at + c.min.result ≤ length c.args.each.now = search rules in
    let up : c.args.at + c.min.result ≤ c.args.at / BLOCK * BLOCK + BLOCK = search rules in
    places_alike c.args.each.now c.args.blocks.now c.args.at c.end_of_alike-to.result (c.args.at + c.min.result) c.whole_of-whole.result _
    c.end_of_alike-to.ensures.order c.end_of_alike-to.ensures.within end up
    (rw (c.block_of.ensures, c.wide_of.ensures) at c.whole_of-whole.ensures.sum) (sym (simp to_z-of_z at c.is_more-counted.ensures))
    (simp to_z-of_z at c.end_of_alike-to.ensures.same)
