use Rattle.std.proofs.Common.{rules, SFits, w64}
use Rattle.std.proofs.lemmas.Int.{to_z-of_z}
use Rattle.dpl_tiles.proofs.corners.columns_between.Goals as goal

pub returns : goal.returns
returns c =
    let f1 : SFits w64 c.args.p.now.x = search rules in
    let f2 : SFits w64 c.args.q.now.x = search rules in
    let g1 : SFits w64 c.lesser-left.result = search rules in
    let g2 : SFits w64 c.greater-right.result = search rules in
    record {
      first_left = simp to_z-of_z (simp to_z-of_z at c.lesser-left.ensures.first);
      first_right = simp to_z-of_z (simp to_z-of_z at c.greater-right.ensures.first);
      second_left = simp to_z-of_z (simp to_z-of_z at c.lesser-left.ensures.second);
      second_right = simp to_z-of_z (simp to_z-of_z at c.greater-right.ensures.second);
    }
