use Rattle.std.proofs.Common.{rules, inl, ◌≡◌, ◌⊎◌, ◌≤◌, ◌+◌, ◌*◌, ◌/◌, length, SFits, w64}
use Rattle.std.proofs.lemmas.Int.{to_z-of_z}
use Rattle.dpl_cover.specs.declared.blocks.TheConstants.{BLOCK}
use Rattle.dpl_cover.proofs.CountLemmas.{block_changed, places_changed, widely_changed}
use Rattle.dpl_cover.proofs.counts.change_within.Goals as goal

pub returns-then-to-from-eq-BLOCK : goal.returns-then-to-from-eq-BLOCK
returns-then-to-from-eq-BLOCK c =
    let by : SFits w64 c.args.by = c.ranges.by in
    let start : c.args.from ≡ c.args.from / BLOCK * BLOCK = search rules in
    let end : c.args.to ≡ c.args.from / BLOCK * BLOCK + BLOCK = search rules in
    block_changed c.args.from c.args.to c.args.by c.args.each.now c.args.blocks.now c.add_whole.new.blocks c.requires.one start
    c.requires.block (inl end) c.requires.parts c.requires.part (simp to_z-of_z at (rw c.block_of-b.ensures at c.add_whole.ensures))

pub returns-then-has_least_beside : goal.returns-then-has_least_beside
returns-then-has_least_beside c =
    let by : SFits w64 c.args.by = c.ranges.by in
    widely_changed c.args.from c.args.to c.args.by c.args.each.now c.add_each.new.each c.args.blocks.now c.widen.new.blocks
    c.requires.one c.requires.within c.requires.block c.requires.parts c.requires.part c.add_each.ensures.long
    (simp to_z-of_z at c.add_each.ensures.own) (rw c.block_of-b.ensures at c.widen.ensures.kept)
    (rw c.block_of-b.ensures at c.widen.ensures.wider) (simp to_z-of_z at (rw c.block_of-b.ensures at c.widen.ensures.between))

pub returns-else-by-gt0 : goal.returns-else-by-gt0
returns-else-by-gt0 c =
    let by : SFits w64 c.args.by = c.ranges.by in
    let to : c.args.to ≤ c.args.from / BLOCK * BLOCK + c.min.result = search rules in
    let up : c.args.from / BLOCK * BLOCK + c.min.result ≤ c.args.from / BLOCK * BLOCK + BLOCK = search rules in
    let full : (c.args.from / BLOCK * BLOCK + c.min.result ≡ c.args.from / BLOCK * BLOCK + BLOCK) ⊎
    (c.args.from / BLOCK * BLOCK + c.min.result ≡ length c.args.each.now) = search rules in
    places_changed c.args.from c.args.to _ c.args.by c.args.each.now c.add_each.new.each c.args.blocks.now c.renew.new.blocks
    c.requires.one to up full c.requires.parts c.requires.part c.add_each.ensures.long (simp to_z-of_z at c.add_each.ensures.own)
    (rw c.block_of-b.ensures at c.renew.ensures)
