use Rattle.std.proofs.Common.{arith, rules, ◌≡◌, ◌++◌, ◌^◌, length, take, drop, SFits, w64}
use Rattle.std.proofs.lemmas.Int.{to_z-of_z}
use Rattle.dpl_cover.proofs.CountLemmas.{small_wider}
use Rattle.dpl_cover.proofs.CoverLemmas.{still_passed, few_counted, few_between, all_few}
use Rattle.dpl_list.proofs.Lists.{refilled}
use Rattle.dpl_cover.proofs.cover.Cover.rise.Goals as goal

pub passed_at-began-requires-clause-known : goal.passed_at-began-requires-clause-known
passed_at-began-requires-clause-known c =
    let f : SFits w64 c.args.row = c.ranges.row in
    rw c.as_slice.ensures.value (simp to_z-of_z (still_passed (λ r. r.y1) c.args.self.now.begins.items _ c.args.row _ c.requires.up c.requires.cover.begun))

pub passed_at-ended-requires-clause-known : goal.passed_at-ended-requires-clause-known
passed_at-ended-requires-clause-known c =
    let f : SFits w64 c.args.row = c.ranges.row in
    rw c.as_slice-2.ensures.value (simp to_z-of_z (still_passed (λ r. r.y2) c.args.self.now.ends.items _ c.args.row _ c.requires.up c.requires.cover.closed))

pub count_both-requires-clause-small : goal.count_both-requires-clause-small
count_both-requires-clause-small c =
    let n = few_counted c.args.self.now c.requires.cover in
    rw (c.as_mut_slice.ensures.value, c.as_mut_slice-2.ensures.value) (small_wider _ (2 ^ 56) _ _ (omega (arith, n)) c.requires.cover.counted.small)

pub count_both-requires-clause-few : goal.count_both-requires-clause-few
count_both-requires-clause-few c =
    let n = few_between c.between-begun.result.now c.args.self.now.begins.items _ _ (2 ^ 40)
    (rw c.as_slice-3.ensures.value at c.between-begun.ensures) c.requires.cover.few in omega (arith, n)

pub count_both-requires-clause-few_closed : goal.count_both-requires-clause-few_closed
count_both-requires-clause-few_closed c =
    let n = few_between c.between-closed.result.now c.args.self.now.ends.items _ _ (2 ^ 40)
    (rw c.as_slice-4.ensures.value at c.between-closed.ensures) (all_few c.args.self.now c.requires.cover) in omega (arith, n)

pub returns-clause-cover : goal.returns-clause-cover
returns-clause-cover c =
    let f : SFits w64 c.args.row = c.ranges.row in
    let cover = c.requires.cover in
    let up : take c.passed_at-began.result c.args.self.now.begins.items ≡ take c.args.self.now.began c.args.self.now.begins.items
    ++ c.between-begun.result.now = rw c.as_slice-3.ensures.value at c.between-begun.ensures in
    let down : take c.passed_at-ended.result c.args.self.now.ends.items ≡ take c.args.self.now.ended c.args.self.now.ends.items
    ++ c.between-closed.result.now = rw c.as_slice-4.ensures.value at c.between-closed.ensures in
    let each : take c.args.self.now.each.len (c.count_both.new.each ++ drop (length c.count_both.new.each) c.args.self.now.each.items)
    ≡ c.count_both.new.each = refilled _ _ _ c.args.self.now.each.ok.0 (search rules) in
    let blocks : take c.args.self.now.blocks.len (c.count_both.new.blocks ++ drop (length c.count_both.new.blocks) c.args.self.now.blocks.items)
    ≡ c.count_both.new.blocks = refilled _ _ _ c.args.self.now.blocks.ok.0 (search rules) in
    simp to_z-of_z (record {
      few = cover.few;
      same = cover.same;
      rising = cover.rising;
      closing = cover.closing;
      columns = cover.columns;
      begun = rw c.as_slice.ensures.value at (simp to_z-of_z at c.passed_at-began.ensures.passed);
      closed = rw c.as_slice-2.ensures.value at (simp to_z-of_z at c.passed_at-ended.ensures.passed);
      counted = rw (up, down, each, blocks) ((rw (c.as_slice-5.ensures.value, c.as_mut_slice.ensures.value, c.as_mut_slice-2.ensures.value) at
          c.count_both.ensures) _ _ cover.counted);
    })
