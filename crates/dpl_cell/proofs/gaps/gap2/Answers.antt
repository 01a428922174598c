use Rattle.std.proofs.lemmas.Int.{to_z-of_z}
use Rattle.dpl_cell.proofs.GapLemmas.{gap_of}
use Rattle.dpl_cell.proofs.Same.{corners_fit}
use Rattle.dpl_cell.proofs.gaps.gap2.Goals as goal

pub returns : goal.returns
returns c =
    let (f1, (f2, (f3, f4))) = corners_fit c.args.a.now in
    let (g1, (g2, (g3, g4))) = corners_fit c.args.b.now in
    gap_of _ _ _ _ (simp to_z-of_z at c.apart-dx.ensures.least) (simp to_z-of_z at c.apart-dy.ensures.least)
    (simp to_z-of_z at c.apart-dx.ensures.attained) (simp to_z-of_z at c.apart-dy.ensures.attained)
