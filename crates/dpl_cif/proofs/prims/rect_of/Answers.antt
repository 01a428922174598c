use Rattle.std.proofs.Common.{rules, ◌≡◌, ◌∙◌, FitsSigned, to_z, of_z, refl, sym, subst}
use Rattle.std.specs.Int.{w64, w128}
use Rattle.std.proofs.lemmas.Int.{to_z-of_z}
use Rattle.dpl_cif.proofs.Fits.{rect_fits, is_none, corners}
use Rattle.dpl_cell.specs.Places.{Corners}
use Rattle.dpl_cell.specs.Ranges.{IsRectangle}
use Rattle.dpl_cif.proofs.prims.rect_of.Goals as goal

pub unreachable-requires : goal.unreachable-requires
unreachable-requires c =
    let x1 : FitsSigned w128 c.args.e.now.x1 = search rules in
    let y1 : FitsSigned w128 c.args.e.now.y1 = search rules in
    let x2 : FitsSigned w128 c.args.e.now.x2 = search rules in
    let y2 : FitsSigned w128 c.args.e.now.y2 = search rules in
    let a : FitsSigned w64 c.narrow.result = search rules in
    let b : FitsSigned w64 c.narrow-2.result = search rules in
    let d : FitsSigned w64 c.narrow-3.result = search rules in
    let f : FitsSigned w64 c.narrow-4.result = search rules in
    let ea : c.narrow.result ≡ c.args.e.now.x1 = simp to_z-of_z at c.narrow.ensures in
    let eb : c.narrow-2.result ≡ c.args.e.now.y1 = simp to_z-of_z at c.narrow-2.ensures in
    let ed : c.narrow-3.result ≡ c.args.e.now.x2 = simp to_z-of_z at c.narrow-3.ensures in
    let ef : c.narrow-4.result ≡ c.args.e.now.y2 = simp to_z-of_z at c.narrow-4.ensures in
    let ga : to_z w64 (of_z w64 c.narrow.result) ≡ c.args.e.now.x1 = to_z-of_z w64 c.narrow.result a ∙ ea in
    let gb : to_z w64 (of_z w64 c.narrow-2.result) ≡ c.args.e.now.y1 = to_z-of_z w64 c.narrow-2.result b ∙ eb in
    let gd : to_z w64 (of_z w64 c.narrow-3.result) ≡ c.args.e.now.x2 = to_z-of_z w64 c.narrow-3.result d ∙ ed in
    let gf : to_z w64 (of_z w64 c.narrow-4.result) ≡ c.args.e.now.y2 = to_z-of_z w64 c.narrow-4.result f ∙ ef in
    let same : corners (to_z w64 (of_z w64 c.narrow.result)) (to_z w64 (of_z w64 c.narrow-2.result))
    (to_z w64 (of_z w64 c.narrow-3.result)) (to_z w64 (of_z w64 c.narrow-4.result)) ≡ corners c.args.e.now.x1
    c.args.e.now.y1 c.args.e.now.x2 c.args.e.now.y2 = rw (ga, gb, gd, gf) refl in
    is_none c.new.result c.in-None.is (c.new.ensures.some.1 (subst IsRectangle (sym same) (rect_fits c.args.e.now c.requires.sound c.requires.near)))
