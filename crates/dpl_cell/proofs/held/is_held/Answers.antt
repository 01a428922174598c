use Rattle.std.proofs.Common.{◌∙◌, sym, SFits, w64}
use Rattle.std.proofs.lemmas.Int.{to_z-of_z}
use Rattle.dpl_cell.specs.Layers.{is_in_outline}
use Rattle.dpl_cell.specs.Outlines.{outline_of}
use Rattle.dpl_cell.proofs.LayerLemmas.{list_any-map}
use Rattle.dpl_cell.proofs.held.is_held.Goals as goal

pub returns : goal.returns
returns c =
    let fx : SFits w64 c.args.x = c.ranges.x in
    let fy : SFits w64 c.args.y = c.ranges.y in
    let e = simp to_z-of_z at c.any_covers.ensures in
    e ∙ sym (list_any-map (is_in_outline c.args.x c.args.y) outline_of c.args.prims.now)
