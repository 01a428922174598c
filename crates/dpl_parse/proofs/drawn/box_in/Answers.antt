use Rattle.std.proofs.Common.{arith, rules, FitsSigned, ◌≡◌, ◌↔◌, true, false, None, Some}
use Rattle.std.specs.Prelude.{pos, ◌+ℤ◌, ◌-ℤ◌, ◌*ℤ◌}
use Rattle.std.specs.Int.{w64}
use Rattle.std.proofs.lemmas.Int.{ints, to_z-of_z}
use Rattle.dpl_cell.specs.Places.{corners_of}
use Rattle.dpl_report.specs.Reading.{box_by}
use Rattle.dpl_parse.proofs.BoxLemmas.{fits, no_box, no_rectangle, rectangle_there, other_numbers}
use Rattle.dpl_parse.proofs.drawn.box_in.Goals as goal

pub returns-in_default : goal.returns-in_default
returns-in_default c = no_box c.args.line.now c.in_default.ensures

pub returns-in_default-box_by : goal.returns-in_default-box_by
returns-in_default-box_by c =
    let d = c.in-Some.drawn in
    let near = c.in-Some.ensures.near in
    let fl : FitsSigned w64 d.sides.0 = fits d.sides.0 near.0 in
    let fw : FitsSigned w64 d.sides.1 = fits d.sides.1 near.1.0 in
    let fx : FitsSigned w64 d.middle.0 = fits d.middle.0 near.1.1.0 in
    let fy : FitsSigned w64 d.middle.1 = fits d.middle.1 near.1.1.1.0 in
    let none : box_by d.sides.0 d.sides.1 d.middle.0 d.middle.1 ≡ None = simp to_z-of_z at c.in_default-box_by.ensures in
    no_rectangle d.sides.0 d.sides.1 d.middle.0 d.middle.1 c.args.line.now c.in-Some.ensures none

pub returns-then-not-is_drawn_by : goal.returns-then-not-is_drawn_by
returns-then-not-is_drawn_by c =
    let d = c.in-Some.drawn in
    let near = c.in-Some.ensures.near in
    let fl : FitsSigned w64 d.sides.0 = fits d.sides.0 near.0 in
    let fw : FitsSigned w64 d.sides.1 = fits d.sides.1 near.1.0 in
    let fx : FitsSigned w64 d.middle.0 = fits d.middle.0 near.1.1.0 in
    let fy : FitsSigned w64 d.middle.1 = fits d.middle.1 near.1.1.1.0 in
    let r = c.in-Some-box_by.rect in
    let made : box_by d.sides.0 d.sides.1 d.middle.0 d.middle.1 ≡ Some (corners_of r) = simp to_z-of_z at c.in-Some-box_by.ensures in
    let x1 : FitsSigned w64 r.x1 = omega (arith, ints, r.wide, r.left, r.right) in
    let x2 : FitsSigned w64 r.x2 = omega (arith, ints, r.wide, r.left, r.right) in
    let columns : c.is_drawn_by.result ≡ true ↔ (r.x2 -ℤ r.x1) *ℤ pos 2 ≡ d.sides.0 × r.x1 +ℤ r.x2 ≡ d.middle.0 =
    simp to_z-of_z at c.is_drawn_by.ensures in
    let n : c.is_drawn_by.result ≡ false = search rules in
    other_numbers (corners_of r) d.sides.0 d.sides.1 d.middle.0 d.middle.1 c.args.line.now c.in-Some.ensures made
    (λ a. let t : c.is_drawn_by.result ≡ true = columns.1 (a.length_is, a.x_is) in absurd (cc (t, n)))

pub returns-then-not-is_drawn_by-2 : goal.returns-then-not-is_drawn_by-2
returns-then-not-is_drawn_by-2 c =
    let d = c.in-Some.drawn in
    let near = c.in-Some.ensures.near in
    let fl : FitsSigned w64 d.sides.0 = fits d.sides.0 near.0 in
    let fw : FitsSigned w64 d.sides.1 = fits d.sides.1 near.1.0 in
    let fx : FitsSigned w64 d.middle.0 = fits d.middle.0 near.1.1.0 in
    let fy : FitsSigned w64 d.middle.1 = fits d.middle.1 near.1.1.1.0 in
    let r = c.in-Some-box_by.rect in
    let made : box_by d.sides.0 d.sides.1 d.middle.0 d.middle.1 ≡ Some (corners_of r) = simp to_z-of_z at c.in-Some-box_by.ensures in
    let y1 : FitsSigned w64 r.y1 = omega (arith, ints, r.high, r.below, r.above) in
    let y2 : FitsSigned w64 r.y2 = omega (arith, ints, r.high, r.below, r.above) in
    let rows : c.is_drawn_by-2.result ≡ true ↔ (r.y2 -ℤ r.y1) *ℤ pos 2 ≡ d.sides.1 × r.y1 +ℤ r.y2 ≡ d.middle.1 =
    simp to_z-of_z at c.is_drawn_by-2.ensures in
    let n : c.is_drawn_by-2.result ≡ false = search rules in
    other_numbers (corners_of r) d.sides.0 d.sides.1 d.middle.0 d.middle.1 c.args.line.now c.in-Some.ensures made
    (λ a. let t : c.is_drawn_by-2.result ≡ true = rows.1 (a.width_is, a.y_is) in absurd (cc (t, n)))

pub returns : goal.returns
returns c =
    let d = c.in-Some.drawn in
    let near = c.in-Some.ensures.near in
    let fl : FitsSigned w64 d.sides.0 = fits d.sides.0 near.0 in
    let fw : FitsSigned w64 d.sides.1 = fits d.sides.1 near.1.0 in
    let fx : FitsSigned w64 d.middle.0 = fits d.middle.0 near.1.1.0 in
    let fy : FitsSigned w64 d.middle.1 = fits d.middle.1 near.1.1.1.0 in
    let r = c.in-Some-box_by.rect in
    let made : box_by d.sides.0 d.sides.1 d.middle.0 d.middle.1 ≡ Some (corners_of r) = simp to_z-of_z at c.in-Some-box_by.ensures in
    let x1 : FitsSigned w64 r.x1 = omega (arith, ints, r.wide, r.left, r.right) in
    let x2 : FitsSigned w64 r.x2 = omega (arith, ints, r.wide, r.left, r.right) in
    let columns : c.is_drawn_by.result ≡ true ↔ (r.x2 -ℤ r.x1) *ℤ pos 2 ≡ d.sides.0 × r.x1 +ℤ r.x2 ≡ d.middle.0 =
    simp to_z-of_z at c.is_drawn_by.ensures in
    let y1 : FitsSigned w64 r.y1 = omega (arith, ints, r.high, r.below, r.above) in
    let y2 : FitsSigned w64 r.y2 = omega (arith, ints, r.high, r.below, r.above) in
    let rows : c.is_drawn_by-2.result ≡ true ↔ (r.y2 -ℤ r.y1) *ℤ pos 2 ≡ d.sides.1 × r.y1 +ℤ r.y2 ≡ d.middle.1 =
    simp to_z-of_z at c.is_drawn_by-2.ensures in
    let s : c.is_drawn_by.result ≡ true = search rules in
    let t : c.is_drawn_by-2.result ≡ true = search rules in
    let a = columns.0 s in
    let b = rows.0 t in
    rectangle_there (corners_of r) d.sides.0 d.sides.1 d.middle.0 d.middle.1 c.args.line.now c.in-Some.ensures made
    (record { length_is = a.0; width_is = b.0; x_is = a.1; y_is = b.1 })
