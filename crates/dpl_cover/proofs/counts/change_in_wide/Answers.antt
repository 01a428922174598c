use Rattle.std.proofs.Common.{arith, rules, refl, inl, ◌≡◌, ◌+◌, ◌*◌, ◌/◌, ◌^◌, SFits, w64}
use Rattle.std.proofs.lemmas.Int.{to_z-of_z}
use Rattle.dpl_cover.specs.declared.blocks.TheConstants.{WIDE}
use Rattle.dpl_cover.proofs.CountLemmas.{loosely_changed, parts_changed, small_now, wide_changed, wider_all}
use Rattle.dpl_cover.proofs.counts.change_in_wide.Goals as goal

pub returns-then-not-is_loose : goal.returns-then-not-is_loose
returns-then-not-is_loose c =
    let by : SFits w64 c.args.by = c.ranges.by in
    let start : c.args.from ≡ c.args.from / WIDE * WIDE = search rules in
    let end : c.args.to ≡ c.args.from / WIDE * WIDE + WIDE = search rules in
    wide_changed c.args.from c.args.to c.args.by c.args.each.now c.args.blocks.now c.add_whole.new.blocks c.requires.one start
    c.requires.wide (inl end) c.requires.counts (wider_all (2 ^ 59) (2 ^ 60) _ _ (omega arith) c.requires.small.count)
    (simp to_z-of_z at (rw c.wide_of-w.ensures at c.add_whole.ensures))

pub returns-then-is_whole-2 : goal.returns-then-is_whole-2
returns-then-is_whole-2 c =
    let by : SFits w64 c.args.by = c.ranges.by in
    let changed = simp to_z-of_z at c.change_parts.ensures in
    parts_changed c.args.from c.args.to _ c.args.by c.args.each.now c.args.blocks.now c.change_parts.new.each c.change_parts.new.blocks
    c.set_bounds.new.blocks c.requires.one c.requires.order c.requires.wide refl c.requires.counts
    (small_now c.args.from c.args.to c.args.by _ _ _ _ c.requires.one changed c.requires.small) changed c.fitted-now.result
    (rw (c.wide_of-w.ensures, c.block_of.ensures, c.block_of-then-is_whole-2.ensures) at c.fitted-now.ensures)
    (rw c.wide_of-w.ensures at c.set_bounds.ensures.kept) (search rules) (search rules)

pub returns-else-not-is_loose-2 : goal.returns-else-not-is_loose-2
returns-else-not-is_loose-2 c =
    let by : SFits w64 c.args.by = c.ranges.by in
    let changed = simp to_z-of_z at c.change_parts.ensures in
    loosely_changed c.args.from c.args.to c.args.by c.args.each.now c.args.blocks.now c.change_parts.new.each c.change_parts.new.blocks
    c.requires.one c.requires.order c.requires.wide c.requires.counts
    (small_now c.args.from c.args.to c.args.by _ _ _ _ c.requires.one changed c.requires.small) changed
    (rw c.wide_of-w.ensures at (c.is_loose-is_loose.ensures (search rules)))
