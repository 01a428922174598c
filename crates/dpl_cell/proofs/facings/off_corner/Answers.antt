use Rattle.std.proofs.Common.{◌≤ℤ◌, ◌<ℤ◌, inl, inr, refl}
use Rattle.std.proofs.lemmas.Int.{to_z-of_z}
use Rattle.dpl_cell.specs.Places.{corners_of}
use Rattle.dpl_cell.proofs.FacingLemmas.{ahead, behind, distances}
use Rattle.dpl_list.proofs.Integers.{is_less, not_less}
use Rattle.dpl_cell.proofs.Same.{corners_fit}
use Rattle.dpl_cell.proofs.facings.off_corner.Goals as goal

pub returns-in-true-true : goal.returns-in-true-true
returns-in-true-true c =
    let a = c.args.a.now in
    let b = c.args.b.now in
    let (f1, (f2, (f3, f4))) = corners_fit a in
    let (g1, (g2, (g3, g4))) = corners_fit b in
    let x : b.x1 <ℤ a.x1 = is_less _ _ (simp to_z-of_z at c.in-true-true.is-0) in
    let y : b.y1 <ℤ a.y1 = is_less _ _ (simp to_z-of_z at c.in-true-true.is-1) in
    let (dx, dy) = distances (corners_of a) (corners_of b) _ _ (c.requires.columns, c.requires.rows)
    (simp to_z-of_z at c.apart-dx.ensures.least) (simp to_z-of_z at c.apart-dx.ensures.attained)
    (simp to_z-of_z at c.apart-dy.ensures.least) (simp to_z-of_z at c.apart-dy.ensures.attained) in
    record { columns = dx; rows = dy; corner = inl (refl, behind _ _ _ _ c.requires.columns a.wide b.wide x, behind _ _ _ _ c.requires.rows a.high b.high y) }

pub returns-in-true-false : goal.returns-in-true-false
returns-in-true-false c =
    let a = c.args.a.now in
    let b = c.args.b.now in
    let (f1, (f2, (f3, f4))) = corners_fit a in
    let (g1, (g2, (g3, g4))) = corners_fit b in
    let x : b.x1 <ℤ a.x1 = is_less _ _ (simp to_z-of_z at c.in-true-false.is-0) in
    let y : a.y1 ≤ℤ b.y1 = not_less _ _ (simp to_z-of_z at c.in-true-false.is-1) in
    let (dx, dy) = distances (corners_of a) (corners_of b) _ _ (c.requires.columns, c.requires.rows)
    (simp to_z-of_z at c.apart-dx.ensures.least) (simp to_z-of_z at c.apart-dx.ensures.attained)
    (simp to_z-of_z at c.apart-dy.ensures.least) (simp to_z-of_z at c.apart-dy.ensures.attained) in
    record {
      columns = dx;
      rows = dy;
      corner = inr (inr
          (inr (refl, behind _ _ _ _ c.requires.columns a.wide b.wide x, ahead _ _ _ _ c.requires.rows a.high b.high y)));
    }

pub returns-in-false-true : goal.returns-in-false-true
returns-in-false-true c =
    let a = c.args.a.now in
    let b = c.args.b.now in
    let (f1, (f2, (f3, f4))) = corners_fit a in
    let (g1, (g2, (g3, g4))) = corners_fit b in
    let x : a.x1 ≤ℤ b.x1 = not_less _ _ (simp to_z-of_z at c.in-false-true.is-0) in
    let y : b.y1 <ℤ a.y1 = is_less _ _ (simp to_z-of_z at c.in-false-true.is-1) in
    let (dx, dy) = distances (corners_of a) (corners_of b) _ _ (c.requires.columns, c.requires.rows)
    (simp to_z-of_z at c.apart-dx.ensures.least) (simp to_z-of_z at c.apart-dx.ensures.attained)
    (simp to_z-of_z at c.apart-dy.ensures.least) (simp to_z-of_z at c.apart-dy.ensures.attained) in
    record {
      columns = dx;
      rows = dy;
      corner = inr (inl
          (refl, ahead _ _ _ _ c.requires.columns a.wide b.wide x, behind _ _ _ _ c.requires.rows a.high b.high y));
    }

pub returns-in-false-false : goal.returns-in-false-false
returns-in-false-false c =
    let a = c.args.a.now in
    let b = c.args.b.now in
    let (f1, (f2, (f3, f4))) = corners_fit a in
    let (g1, (g2, (g3, g4))) = corners_fit b in
    let x : a.x1 ≤ℤ b.x1 = not_less _ _ (simp to_z-of_z at c.in-false-false.is-0) in
    let y : a.y1 ≤ℤ b.y1 = not_less _ _ (simp to_z-of_z at c.in-false-false.is-1) in
    let (dx, dy) = distances (corners_of a) (corners_of b) _ _ (c.requires.columns, c.requires.rows)
    (simp to_z-of_z at c.apart-dx.ensures.least) (simp to_z-of_z at c.apart-dx.ensures.attained)
    (simp to_z-of_z at c.apart-dy.ensures.least) (simp to_z-of_z at c.apart-dy.ensures.attained) in
    record {
      columns = dx;
      rows = dy;
      corner = inr (inr
          (inl (refl, ahead _ _ _ _ c.requires.columns a.wide b.wide x, ahead _ _ _ _ c.requires.rows a.high b.high y)));
    }
