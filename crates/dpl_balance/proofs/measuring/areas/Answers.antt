use Rattle.std.proofs.Common.{arith, rules, ◌≡◌, ◌+◌, ℕ, false, true, map, sym, subst}
use Rattle.dpl_cell.specs.Places.{corners_of}
use Rattle.dpl_good.specs.MaskRects.{mask_of}
use Rattle.dpl_balance.specs.Areas.{mask_area}
use Rattle.dpl_balance.specs.Cells.{HoldCell, HasCells}
use Rattle.dpl_balance.proofs.OuterLemmas.{mask_cells}
use Rattle.dpl_balance.proofs.measuring.areas.Goals as goal

pub returns-clause-cells_a : goal.returns-clause-cells_a
returns-clause-cells_a c = λ space came.
    let e : c.fragments_area.result + c.zones_area-zones.result ≡ mask_area c.args.fragments.now false c.args.colours.now = search rules in
    let H : ℕ → Type 0 = HasCells (HoldCell (map corners_of (mask_of false c.args.fragments.now c.args.colours.now))) in
    subst H (sym e) (mask_cells space c.args.fragments.now false c.args.colours.now c.requires.one came)

pub returns-clause-cells_b : goal.returns-clause-cells_b
returns-clause-cells_b c = λ space came.
    let e : c.fragments_area-2.result + c.zones_area-zones.result ≡ mask_area c.args.fragments.now true c.args.colours.now = search rules in
    let H : ℕ → Type 0 = HasCells (HoldCell (map corners_of (mask_of true c.args.fragments.now c.args.colours.now))) in
    subst H (sym e) (mask_cells space c.args.fragments.now true c.args.colours.now c.requires.one came)
