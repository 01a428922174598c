use Rattle.std.proofs.Common.{◌≡◌}
use Rattle.std.proofs.lemmas.Int.{to_z-of_z}
use Rattle.dpl_cell.specs.Places.{corners_of}
use Rattle.dpl_cell.specs.Gaps.{overlap}
use Rattle.dpl_cell.proofs.Same.{corners_fit}
use Rattle.dpl_near.proofs.ApartLemmas.{miss_apart, apart_miss}
use Rattle.dpl_near.proofs.apart.is_apart.Goals as goal

pub returns : goal.returns
returns c =
    let a = c.args.a.now in
    let b = c.args.b.now in
    let (f1, (f2, (f3, f4))) = corners_fit a in
    let (g1, (g2, (g3, g4))) = corners_fit b in
    let columns : c.meet-columns.result ≡ overlap a.x1 a.x2 b.x1 b.x2 = simp to_z-of_z at c.meet-columns.ensures in
    let rows : c.meet-rows.result ≡ overlap a.y1 a.y2 b.y1 b.y2 = simp to_z-of_z at c.meet-rows.ensures in
    (miss_apart (corners_of a) (corners_of b) _ _ columns rows, apart_miss (corners_of a) (corners_of b) _ _ columns rows)
