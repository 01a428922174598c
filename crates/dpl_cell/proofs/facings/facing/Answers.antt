use Rattle.std.proofs.Common.{rules, arith, ◌≤ℤ◌, ◌<ℤ◌, inl, inr, SFits, w64}
use Rattle.std.specs.Int.{int_max, int_min}
use Rattle.std.proofs.lemmas.Int.{ints, to_z-of_z}
use Rattle.dpl_cell.specs.Facing.{IsCommon}
use Rattle.dpl_cell.proofs.SeamLemmas.{apart_sides}
use Rattle.dpl_cell.proofs.FacingLemmas.{common, ahead, behind}
use Rattle.dpl_list.proofs.Integers.{is_less, not_less}
use Rattle.dpl_cell.proofs.facings.facing.Goals as goal
use Rattle.dpl_cell.proofs.facings.facing.Goals.{then-b-a, else-b-a, then-b-a-2, else-b-a-2}

pub returns-then-c : goal.returns-then-c
returns-then-c c =
    let a = c.args.a.now in
    let b = c.args.b.now in
    let r = c.common_part-c.result in
    let f1 : SFits w64 r.left = search rules in
    let f2 : SFits w64 r.right = search rules in
    let f3 : SFits w64 r.low = search rules in
    let f4 : SFits w64 r.high = search rules in
    let g1 : SFits w64 a.y1 = search rules in
    let g2 : SFits w64 b.y1 = search rules in
    let e = c.common_part-c.ensures in
    let some : r.left <ℤ r.right = is_less _ _ (simp to_z-of_z at c.if-c.true) in
    let shared : IsCommon r.left r.right a.x1 a.x2 b.x1 b.x2 = common _ _ _ _ _ _ e.left e.right some in
    let miss : int_min a.y2 b.y2 ≤ℤ int_max a.y1 b.y1 = elim (apart_sides _ _ c.requires) [ inl h ↦ absurd (omega (arith, ints)) | inr h ↦ h ] in
    simp to_z-of_z (inl (record {
      columns = shared;
      side = elim c.if-b-a.branch [
        | then-b-a w ↦ inl (w.port-is, behind _ _ _ _ miss a.high b.high (is_less _ _ (simp to_z-of_z at w.if-b-a.true)))
        | else-b-a w ↦ inr (w.port-is, ahead _ _ _ _ miss a.high b.high (not_less _ _ (simp to_z-of_z at w.if-b-a.false)))
      ];
    }))

pub returns-then-c-2 : goal.returns-then-c-2
returns-then-c-2 c =
    let a = c.args.a.now in
    let b = c.args.b.now in
    let r = c.common_part-c.result in
    let f1 : SFits w64 r.left = search rules in
    let f2 : SFits w64 r.right = search rules in
    let f3 : SFits w64 r.low = search rules in
    let f4 : SFits w64 r.high = search rules in
    let g1 : SFits w64 a.x1 = search rules in
    let g2 : SFits w64 b.x1 = search rules in
    let e = c.common_part-c.ensures in
    let some : r.low <ℤ r.high = is_less _ _ (simp to_z-of_z at c.if-c-2.true) in
    let shared : IsCommon r.low r.high a.y1 a.y2 b.y1 b.y2 = common _ _ _ _ _ _ e.low e.high some in
    let miss : int_min a.x2 b.x2 ≤ℤ int_max a.x1 b.x1 = elim (apart_sides _ _ c.requires) [ inl h ↦ h | inr h ↦ absurd (omega (arith, ints)) ] in
    simp to_z-of_z (inr (record {
      rows = shared;
      side = elim c.if-b-a-2.branch [
        | then-b-a-2 w ↦ inr (w.port-is, behind _ _ _ _ miss a.wide b.wide (is_less _ _ (simp to_z-of_z at w.if-b-a-2.true)))
        | else-b-a-2 w ↦ inl (w.port-is, ahead _ _ _ _ miss a.wide b.wide (not_less _ _ (simp to_z-of_z at w.if-b-a-2.false)))
      ];
    }))
