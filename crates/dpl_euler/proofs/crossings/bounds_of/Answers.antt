use Rattle.std.proofs.Common.{rules, ◌≡◌, refl, SFits, w64}
use Rattle.std.specs.Int.{int_max, int_min}
use Rattle.std.proofs.lemmas.Int.{to_z-of_z}
use Rattle.dpl_euler.proofs.SegmentLemmas.{coordinate_fits}
use Rattle.dpl_euler.proofs.crossings.bounds_of.Goals as goal

pub returns : goal.returns
returns c =
    let s = c.args.segment.now in
    let x1 : SFits w64 s.x1 = coordinate_fits s.x1 s.low_x1 s.high_x1 in
    let y1 : SFits w64 s.y1 = coordinate_fits s.y1 s.low_y1 s.high_y1 in
    let x2 : SFits w64 s.x2 = coordinate_fits s.x2 s.low_x2 s.high_x2 in
    let y2 : SFits w64 s.y2 = coordinate_fits s.y2 s.low_y2 s.high_y2 in
    let f1 : SFits w64 c.min.result = search rules in
    let f2 : SFits w64 c.max.result = search rules in
    let f3 : SFits w64 c.min-2.result = search rules in
    let f4 : SFits w64 c.max-2.result = search rules in
    let a1 : c.min.result ≡ int_min s.x1 s.x2 = simp to_z-of_z at c.min.ensures.value in
    let a2 : c.max.result ≡ int_max s.x1 s.x2 = simp to_z-of_z at c.max.ensures.value in
    let a3 : c.min-2.result ≡ int_min s.y1 s.y2 = simp to_z-of_z at c.min-2.ensures.value in
    let a4 : c.max-2.result ≡ int_max s.y1 s.y2 = simp to_z-of_z at c.max-2.ensures.value in
    rw (to_z-of_z w64 c.min.result f1, to_z-of_z w64 c.max.result f2, to_z-of_z w64 c.min-2.result f3, to_z-of_z w64 c.max-2.result f4, a1, a2, a3, a4) refl
