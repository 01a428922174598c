use Rattle.std.proofs.Common.{rules, SFits, w64}
use Rattle.std.proofs.lemmas.Int.{to_z-of_z}
use Rattle.dpl_cell.proofs.Same.{corners_fit}
use Rattle.dpl_cell.specs.Places.{corners_of}
use Rattle.dpl_links.proofs.ReachLemmas.{gap_from}
use Rattle.dpl_links.proofs.reaching.least_gap.Goals as goal

pub returns : goal.returns
returns c =
    let (f1, (f2, (f3, f4))) = corners_fit c.args.rect.now in
    let g1 : SFits w64 c.args.bounds.now.left = search rules in
    let g2 : SFits w64 c.args.bounds.now.right = search rules in
    let g3 : SFits w64 c.args.bounds.now.low = search rules in
    let g4 : SFits w64 c.args.bounds.now.high = search rules in
    gap_from (corners_of c.args.rect.now) c.args.bounds.now _ _
    (simp to_z-of_z at c.least_apart-dx.ensures.least) (simp to_z-of_z at c.least_apart-dy.ensures.least)
