use Rattle.std.proofs.Common.{arith, rules, ◌-◌, ◌<◌, ◌≢◌, length, get_or, SFits, w64}
use Rattle.std.proofs.lemmas.Int.{to_z-of_z}
use Rattle.std.proofs.lemmas.List.{get_or_default}
use Rattle.dpl_list.proofs.Integers.{is_less, not_less}
use Rattle.dpl_near.specs.Seeking.{IsPlacePast}
use Rattle.dpl_near.proofs.LineLemmas.{levels_rise, line_there, no_line, no_line_before, no_line_there, past_within}
use Rattle.dpl_near.proofs.lines.line_of.Goals as goal

pub place_past-past-requires : goal.place_past-past-requires
place_past-past-requires c = levels_rise c.args.lines.now c.args.levels.now c.requires.rising c.requires.levels

pub returns-then-past-eq0 : goal.returns-then-past-eq0
returns-then-past-eq0 c =
    let f : SFits w64 c.args.border.now.line = search rules in
    no_line_before c.args.lines.now c.args.levels.now c.args.border.now.line c.place_past-past.result c.requires.levels
    (simp to_z-of_z at c.place_past-past.ensures) (search rules)

pub returns-then-line-border : goal.returns-then-line-border
returns-then-line-border c =
    let f : SFits w64 c.args.border.now.line = search rules in
    let g : SFits w64 (get_or c.args.lines.now (c.place_past-past.result - 1) no_line).at = search rules in
    let past : IsPlacePast c.args.levels.now c.args.border.now.line c.place_past-past.result = simp to_z-of_z at c.place_past-past.ensures in
    let some : c.place_past-past.result ≢ 0 = search rules in
    let top = past_within c.args.lines.now c.args.levels.now c.args.border.now.line c.place_past-past.result c.requires.levels past in
    let within : c.place_past-past.result - 1 < length c.args.lines.now = omega (arith, some, top) in
    no_line_there c.args.lines.now c.args.levels.now c.args.border.now.line c.place_past-past.result
    (get_or c.args.lines.now (c.place_past-past.result - 1) no_line) c.requires.rising c.requires.levels past some
    (λ d. get_or_default c.args.lines.now (c.place_past-past.result - 1) d no_line within)
    (is_less _ _ (simp to_z-of_z at c.if-line-border.true))

pub returns : goal.returns
returns c =
    let f : SFits w64 c.args.border.now.line = search rules in
    let g : SFits w64 (get_or c.args.lines.now (c.place_past-past.result - 1) no_line).at = search rules in
    let past : IsPlacePast c.args.levels.now c.args.border.now.line c.place_past-past.result = simp to_z-of_z at c.place_past-past.ensures in
    let some : c.place_past-past.result ≢ 0 = search rules in
    let top = past_within c.args.lines.now c.args.levels.now c.args.border.now.line c.place_past-past.result c.requires.levels past in
    let within : c.place_past-past.result - 1 < length c.args.lines.now = omega (arith, some, top) in
    line_there c.args.lines.now c.args.levels.now c.args.border.now.line c.place_past-past.result
    (get_or c.args.lines.now (c.place_past-past.result - 1) no_line) c.requires.levels past some
    (λ d. get_or_default c.args.lines.now (c.place_past-past.result - 1) d no_line within)
    (not_less _ _ (simp to_z-of_z at c.if-line-border.false))
