use Rattle.std.proofs.Common.{rules, ◌≡◌, ◌⊎◌, ◌+◌, ◌-◌, ◌+ℤ◌, pos, length, SFits, w64}
use Rattle.std.proofs.lemmas.Int.{to_z-of_z}
use Rattle.dpl_cover.proofs.ColumnLemmas.{left_of_right, part_rising, right_of_right}
use Rattle.dpl_cover.proofs.columns.place_after.Goals as goal

pub place_from-requires : goal.place_from-requires
place_from-requires c = part_rising c.args.columns.now c.args.from (c.args.from + c.min.result - c.args.from) (search rules) c.requires.columns

pub returns-clause-left : goal.returns-clause-left
returns-clause-left c =
    let f : SFits w64 c.args.r.now.x2 = search rules in
    left_of_right c.args.columns.now c.args.from (c.args.from + c.min.result - c.args.from) c.place_from.result
    c.args.r.now.x1 c.args.r.now.x2 c.args.r.now.wide (search rules) c.requires.left c.place_from.ensures.within (simp to_z-of_z at c.place_from.ensures.left)

pub returns-clause-others : goal.returns-clause-others
returns-clause-others c =
    let f : SFits w64 c.args.r.now.x2 = search rules in
    let width : (c.args.from + (c.args.from + c.min.result - c.args.from) ≡ length c.args.columns.now) ⊎
    (c.args.r.now.x1 +ℤ pos (c.args.from + c.min.result - c.args.from) ≡ c.args.r.now.x2) = search rules in
    right_of_right c.args.columns.now c.args.from (c.args.from + c.min.result - c.args.from) c.place_from.result
    c.args.r.now.x1 c.args.r.now.x2 c.requires.columns (search rules) width c.requires.others (simp to_z-of_z at c.place_from.ensures.others)
