use Rattle.std.proofs.Common.{rules, arith, ◌≡◌, ◌∙◌, sym, SFits, w64}
use Rattle.std.proofs.lemmas.Int.{to_z-of_z}
use Rattle.dpl_cell.specs.Places.{corners_of}
use Rattle.dpl_tiles.proofs.PartLemmas.{columns_held}
use Rattle.dpl_tiles.proofs.still.stack_across.Goals as goal

pub returns-then-has_columns : goal.returns-then-has_columns
returns-then-has_columns c =
    let f : SFits w64 c.in-Some.r.now.x1 = search rules in
    let g : SFits w64 c.in-Some.r.now.x2 = search rules in
    let from : c.new.result.from ≡ c.in-Some.r.now.x1 = simp to_z-of_z at c.new.ensures.from in
    let to : c.new.result.to ≡ c.in-Some.r.now.x2 = simp to_z-of_z at c.new.ensures.to in
    let held = columns_held (corners_of c.in-Some.r.now) c.args.window.now.left c.args.window.now.right (sym c.has_columns.ensures ∙ c.if-has_columns.true) in
    let l = c.in-Some.ensures.item.3.0 in
    (rw from held.0, rw to held.1, (0, c.in-Some.r.now, omega arith, sym (c.in-Some.ensures.item.1), record { left = sym from; right = sym to }))
