use Rattle.std.proofs.Common.{rules, ◌≡◌, ◌∙◌, ℤ, ap, false, FitsSigned}
use Rattle.std.specs.Int.{w64, w128}
use Rattle.std.proofs.lemmas.Int.{to_z-of_z}
use Rattle.dpl_rules.specs.Figures.{scaled, double}
use Rattle.dpl_calls.specs.Placement.{IsCornerNear}
use Rattle.dpl_calls.specs.Parts.{scaled_corner}
use Rattle.dpl_calls.proofs.Nearness.{spot_near}
use Rattle.dpl_calls.proofs.Turns.{placement}
use Rattle.dpl_calls.proofs.placement.shift.Goals as goal

pub returns-clause-near : goal.returns-clause-near
returns-clause-near c =
    let near : IsCornerNear (scaled_corner c.args.scale c.args.by.now) = spot_near c.args.scale c.args.by.now c.requires.scale c.requires.bounds in
    let bx : FitsSigned w64 c.args.by.now.x = search rules in
    let by : FitsSigned w64 c.args.by.now.y = search rules in
    let dx : FitsSigned w128 c.double.result = search rules in
    let dy : FitsSigned w128 c.double-2.result = search rules in
    let fx : FitsSigned w128 c.scaled-x.result = search rules in
    let fy : FitsSigned w128 c.scaled-y.result = search rules in
    let sx : c.scaled-x.result ≡ scaled c.args.scale c.double.result = simp to_z-of_z at c.scaled-x.ensures in
    let sy : c.scaled-y.result ≡ scaled c.args.scale c.double-2.result = simp to_z-of_z at c.scaled-y.ensures in
    let ex : c.double.result ≡ double c.args.by.now.x = simp to_z-of_z at c.double.ensures.value in
    let ey : c.double-2.result ≡ double c.args.by.now.y = simp to_z-of_z at c.double-2.ensures.value in
    let x : c.scaled-x.result ≡ scaled c.args.scale (double c.args.by.now.x) = sx ∙ ap (λ (z : ℤ). scaled c.args.scale z) ex in
    let y : c.scaled-y.result ≡ scaled c.args.scale (double c.args.by.now.y) = sy ∙ ap (λ (z : ℤ). scaled c.args.scale z) ey in
    let made : c.make.result ≡ placement false false false c.scaled-x.result c.scaled-y.result = simp to_z-of_z at c.make.ensures in record {
      x = rw (made, x) near.x;
      y = rw (made, y) near.y;
    }
