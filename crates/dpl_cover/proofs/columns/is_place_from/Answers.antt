use Rattle.std.proofs.Common.{rules, ◌≢◌, ◌-◌, ◌<◌, length, SFits, w64}
use Rattle.std.proofs.lemmas.Int.{to_z-of_z}
use Rattle.dpl_list.proofs.Integers.{is_at_most, not_at_most}
use Rattle.dpl_cover.specs.Columns.{column_at}
use Rattle.dpl_cover.proofs.ColumnLemmas.{left_up_to, not_left_from}
use Rattle.dpl_cover.proofs.columns.is_place_from.Goals as goal

pub returns-clause-left : goal.returns-clause-left
returns-clause-left c = λ t.
    let f : SFits w64 c.args.x = c.ranges.x in
    let g : SFits w64 (column_at c.args.columns.now (c.args.place - 1)) = search rules in
    let some : c.args.place ≢ 0 = search rules in
    let within : c.args.place < length c.args.columns.now = search rules in
    left_up_to c.args.columns.now c.args.place c.args.x c.requires some within
    (not_at_most _ _ (simp to_z-of_z at c.if-x-columns.false))

pub returns-clause-others : goal.returns-clause-others
returns-clause-others c = λ t.
    let f : SFits w64 c.args.x = c.ranges.x in
    let g : SFits w64 (column_at c.args.columns.now c.args.place) = search rules in
    not_left_from c.args.columns.now c.args.place c.args.x c.requires (is_at_most _ _ (simp to_z-of_z at t))
